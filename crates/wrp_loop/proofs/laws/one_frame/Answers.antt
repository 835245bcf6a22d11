use Rattle.wrp_loop.proofs.Choices.{one_frame}
use Rattle.wrp_loop.proofs.laws.one_frame.Goals as goal

pub returns : goal.returns
returns c = one_frame
