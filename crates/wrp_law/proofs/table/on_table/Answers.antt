-- The value is near the exact fraction where the points are.
use Rattle.std.proofs.Common.{◌≡◌, ◌+◌, ◌≤◌, arith, length, to_z, of_z, w64, subst}
use Rattle.std.proofs.lemmas.Int.{to_z-of_z}
use Rattle.wrp_law.specs.Law.{IsNear}
use Rattle.wrp_law.specs.Table.{table_value}
use Rattle.wrp_law.specs.declared.delay.LawKind.TheVariants.{Linear}
use Rattle.wrp_law.proofs.Tables.{table_value-near}
use Rattle.wrp_law.proofs.table.on_table.Goals as goal

pub returns-clause-near : goal.returns-clause-near
returns-clause-near c = λ kappa err size near.
    let value : table_value c.args.points.now c.args.x ≡ to_z w64 (of_z w64 c.value_on.result) = grind (arith, to_z-of_z) in
    let least : 1 ≤ length c.args.points.now = omega (arith, c.requires.table.least) in
    subst (IsNear (Linear kappa) (err + 1) c.args.x) value
    (table_value-near kappa err c.args.points.now c.args.x size least c.requires.table.rises c.requires.x.first c.requires.x.last near)
