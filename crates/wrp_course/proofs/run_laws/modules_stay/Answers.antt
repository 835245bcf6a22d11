use Rattle.wrp_course.proofs.RunTimes.{modules_stay}
use Rattle.wrp_course.proofs.run_laws.modules_stay.Goals as goal

pub returns : goal.returns
returns c = modules_stay
