-- The last point is at the end of the list.
use Rattle.std.proofs.Common.{SFits, ◌-◌, pos, length, get_or, rules, ◌∙◌, sym, w64}
use Rattle.std.proofs.lemmas.Int.{to_z-of_z}
use Rattle.wrp_law.proofs.Tables.{last_x-at}
use Rattle.wrp_law.proofs.table.last_x.Goals as goal

pub returns : goal.returns
returns c =
    let fits : SFits w64 (get_or c.args.points.now (length c.args.points.now - 1) (pos 0, pos 0)).0 = search rules in
    to_z-of_z w64 _ fits ∙ sym (last_x-at c.args.points.now)
