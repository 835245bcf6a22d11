-- By when frames were put out, and what of them was.
use Rattle.wrp_course.proofs.RunSent.{frames_may_come}
use Rattle.wrp_course.proofs.run_laws.frames_may_come.Goals as goal

pub returns : goal.returns
returns c = frames_may_come c.time_never_falls.ensures c.frames_were_put_out.ensures c.frames_are_stamped.ensures
