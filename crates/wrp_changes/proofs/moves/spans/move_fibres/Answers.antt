use Rattle.wrp_changes.proofs.StillFibres.{all_still}
use Rattle.wrp_changes.proofs.moves.spans.move_fibres.Goals as goal

pub returns-else-not-all_stay : goal.returns-else-not-all_stay
returns-else-not-all_stay c = all_still c.args.moves.now c.args.spans.now.items (c.all_stay.ensures c.if-not-all_stay.false)
