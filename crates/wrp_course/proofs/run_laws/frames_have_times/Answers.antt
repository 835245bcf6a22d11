use Rattle.wrp_course.proofs.RunFlights.{frames_have_times}
use Rattle.wrp_course.proofs.run_laws.frames_have_times.Goals as goal

pub returns : goal.returns
returns c = frames_have_times
