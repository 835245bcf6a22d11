use Rattle.wrp_course.proofs.RunTimes.{time_never_falls}
use Rattle.wrp_course.proofs.run_laws.time_never_falls.Goals as goal

pub returns : goal.returns
returns c = time_never_falls
