-- By what a dropped frame leaves of its node.
use Rattle.wrp_course.proofs.DroppedFrames.{dropped_frames_leave_a_count}
use Rattle.wrp_course.proofs.run_laws.dropped_frames_leave_a_count.Goals as goal

pub returns : goal.returns
returns c = dropped_frames_leave_a_count c.dropped_leaves_a_count.ensures c.step_settles.ensures
