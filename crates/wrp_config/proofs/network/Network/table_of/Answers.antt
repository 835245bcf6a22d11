use Rattle.std.proofs.Common.{◌≡◌, ◌∙◌, ℕ, ◌<◌, List, Some, length, get_or, option_map, option_and_then, sym, ap, ap₂}
use Rattle.std.proofs.lemmas.Option.{slice_get-get_or}
use Rattle.wrp_network.specs.declared.configuration.NetCfg.{NetCfg}
use Rattle.wrp_network.specs.declared.network.LinkCfg.{LinkCfg}
use Rattle.wrp_caldb.specs.Database.{Database, TableAt, table_at}
use Rattle.wrp_config.specs.Names.{table_of}
use Rattle.wrp_config.proofs.network.Network.table_of.Goals as goal

-- the table of a link's fibre, if the link is read at its place
of_fibre : (cfg : NetCfg) (db : Database) (l i : ℕ) (links : List LinkCfg) (link : LinkCfg) (name : List ℕ) (told : TableAt) → l < length cfg.links.items
    → links ≡ cfg.links.items → i ≡ l → name ≡ (get_or links i link).fibre.bytes → Some told ≡ table_at db name → Some told.points ≡ table_of cfg db l
of_fibre cfg db l i links link name told below all at named e =
    let here = ap (option_and_then (λ (k : LinkCfg). table_at db k.fibre.bytes)) (slice_get-get_or cfg.links.items l link below) in
    let same = named ∙ ap₂ (λ xs n. (get_or xs n link).fibre.bytes) all at in
    ap (option_map (λ (t : TableAt). t.points)) (e ∙ ap (table_at db) same ∙ sym here)

pub returns-in-Some : goal.returns-in-Some
returns-in-Some c =
    of_fibre c.args.self.now.cfg c.args.self.now.db c.args.link c.from.result c.deref.result.now c.index-deref-from.result c.as_str.result.now
    (record { points = c.in-Some.points.now; err = c.in-Some._err })
    c.requires c.deref.ensures.0 c.from.ensures c.as_str.ensures.value c.in-Some.ensures.value
