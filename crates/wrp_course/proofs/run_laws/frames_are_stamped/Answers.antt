use Rattle.wrp_course.proofs.RunStamps.{frames_are_stamped}
use Rattle.wrp_course.proofs.run_laws.frames_are_stamped.Goals as goal

pub returns : goal.returns
returns c = frames_are_stamped c.arrival_keeps_stamp_bound.ensures
