use Rattle.wrp_course.proofs.RunFlights.{frames_were_put_out}
use Rattle.wrp_course.proofs.run_laws.frames_were_put_out.Goals as goal

pub returns : goal.returns
returns c = frames_were_put_out
