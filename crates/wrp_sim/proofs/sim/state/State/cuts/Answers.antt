use Rattle.std.proofs.Common.{refl}
use Rattle.wrp_sim.proofs.sim.state.State.cuts.Goals as goal

pub returns-clause-follows : goal.returns-clause-follows
returns-clause-follows c at stays i = (refl, c.comes.ensures.follows at i)
