use Rattle.wrp_loop.proofs.Keeping.{loop_keeps_the_bounds}
use Rattle.wrp_loop.proofs.laws.loop_keeps_the_bounds.Goals as goal

pub returns : goal.returns
returns c = loop_keeps_the_bounds c.simulator_keeps_the_bounds.ensures.accepted
