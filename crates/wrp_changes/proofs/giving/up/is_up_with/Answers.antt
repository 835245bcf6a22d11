use Rattle.wrp_changes.proofs.Carriers.{up_with}
use Rattle.wrp_changes.proofs.giving.up.is_up_with.Goals as goal

pub returns : goal.returns
returns c s w off swaps h = up_with w s c.args.n c.args.other off swaps _ c.is_up-up.result c.either.ensures (c.is_up-up.ensures s w h)
