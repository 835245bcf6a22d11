use Rattle.wrp_loop.proofs.Audited.{loop_is_audited}
use Rattle.wrp_loop.proofs.laws.loop_is_audited.Goals as goal

pub returns : goal.returns
returns c = loop_is_audited
