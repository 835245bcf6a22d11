use Rattle.wrp_loop.proofs.Told.{one_loop}
use Rattle.wrp_loop.proofs.laws.one_loop.Goals as goal

pub returns : goal.returns
returns c = one_loop c.told_last.ensures
