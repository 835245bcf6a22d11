-- The law is the table's law, or the fraction.
use Rattle.std.proofs.Common.{◌≡◌, ◌∙◌, None, Some, option_map, ap, sym, rules}
use Rattle.std.proofs.lemmas.Int.{to_z-of_z}
use Rattle.wrp_caldb.specs.Database.{table_at}
use Rattle.wrp_law.specs.declared.link_law.LinkLaw.TheVariants.{Fraction, Table}
use Rattle.wrp_replay.specs.LinkLaw.{IsLawOver}
use Rattle.wrp_replay.proofs.LinkLaws.{fraction_law, table_law}
use Rattle.wrp_replay.proofs.law.law_of.Goals as goal

pub returns-in-Some : goal.returns-in-Some
returns-in-Some c =
    let db = c.args.replayed.net.now.db in
    let link = c.args.link.now in
    let has : table_at db link.fibre.bytes ≡ Some (record { points = c.in-Some.points.now; err = c.in-Some.table_err }) =
    ap (table_at db) (sym c.as_str.ensures.value) ∙ sym c.table.ensures.value ∙ ap (option_map _) c.in-Some.is in
    let law : IsLawOver db (Some link) (Table link.kappa c.in-Some.points c.in-Some.table_err) =
    table_law c.args.replayed.net.now.cfg db c.args.replayed.node link c.in-Some.points c.in-Some.table_err c.requires.accepted c.requires.link has in
    search (law, to_z-of_z, rules)

pub returns-in-None : goal.returns-in-None
returns-in-None c =
    let db = c.args.replayed.net.now.db in
    let link = c.args.link.now in
    let none : table_at db link.fibre.bytes ≡ None =
    ap (table_at db) (sym c.as_str.ensures.value) ∙ sym c.table.ensures.value ∙ ap (option_map _) c.in-None.is in
    let law : IsLawOver db (Some link) (Fraction link.kappa) =
    fraction_law c.args.replayed.net.now.cfg db c.args.replayed.node link c.requires.accepted c.requires.link none in
    search (law, to_z-of_z, rules)
