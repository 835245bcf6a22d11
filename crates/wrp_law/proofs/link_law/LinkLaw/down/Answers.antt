-- A value of the table is near the fraction, since the points are.
use Rattle.std.proofs.Common.{◌≡◌, ◌+◌, to_z, of_z, w64, arith, sym, subst}
use Rattle.std.proofs.lemmas.Int.{ints}
use Rattle.wrp_law.specs.Law.{IsNear}
use Rattle.wrp_law.specs.LinkLaw.{IsSound, kind_of, error_of}
use Rattle.wrp_law.specs.declared.delay.LawKind.TheVariants.{Linear}
use Rattle.wrp_law.proofs.link_law.LinkLaw.down.Goals as goal

pub returns-in-Table-clause-near : goal.returns-in-Table-clause-near
returns-in-Table-clause-near c =
    let sound = subst IsSound c.in-Table.is c.requires.sound in
    let value : c.on_table.result ≡ to_z w64 (of_z w64 c.on_table.result) = omega (arith, ints) in
    let x_is : to_z w64 (of_z w64 c.args.x) ≡ c.args.x = omega (arith, ints) in
    let near = c.on_table.ensures.near c.in-Table.kappa c.in-Table.table_err sound.0 sound.3 in
    subst (IsNear (kind_of c.args.self.now) (error_of c.args.self.now) c.args.x) value
    (subst (λ law. IsNear (kind_of law) (error_of law) c.args.x c.on_table.result) (sym c.in-Table.is)
    (subst (λ x. IsNear (Linear c.in-Table.kappa) (c.in-Table.table_err + 1) x c.on_table.result) x_is near))
