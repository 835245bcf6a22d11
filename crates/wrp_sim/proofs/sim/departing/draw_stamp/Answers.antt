use Rattle.std.proofs.Common.{arith}
use Rattle.std.proofs.lemmas.Int.{ints, to_z-of_z}
use Rattle.wrp_sim.proofs.sim.departing.draw_stamp.Goals as goal

pub returns-clause-value : goal.returns-clause-value
returns-clause-value c = grind (arith, ints, to_z-of_z)
