use Rattle.wrp_lossless_laws.proofs.Simulating.{simulated_too}
use Rattle.wrp_lossless_laws.proofs.lossless_loop_is_simulated.Goals as goal

pub returns : goal.returns
returns c = simulated_too c.simulator_keeps_the_bounds.ensures.runs
