use Rattle.wrp_lossless_laws.proofs.Printing.{prints_the_simulation}
use Rattle.wrp_lossless_laws.proofs.lossless_loop_prints_the_simulation.Goals as goal

pub returns : goal.returns
returns c = prints_the_simulation c.simulator_keeps_the_bounds.ensures.runs c.looped_events_carry_parts.ensures
