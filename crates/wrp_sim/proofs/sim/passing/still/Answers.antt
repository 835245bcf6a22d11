use Rattle.std.proofs.Common.{pos}
use Rattle.wrp_sim.proofs.SimLists.{taken_alike}
use Rattle.wrp_sim.proofs.sim.passing.still.Goals as goal

pub returns-clause-value : goal.returns-clause-value
returns-clause-value c = taken_alike (pos 0, pos 0) c.args.count 63 0 c.requires
