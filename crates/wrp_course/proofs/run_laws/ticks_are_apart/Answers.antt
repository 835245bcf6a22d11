use Rattle.wrp_course.proofs.RunTicks.{ticks_are_apart}
use Rattle.wrp_course.proofs.run_laws.ticks_are_apart.Goals as goal

pub returns : goal.returns
returns c = ticks_are_apart
