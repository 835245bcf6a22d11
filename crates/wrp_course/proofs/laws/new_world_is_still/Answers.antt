use Rattle.wrp_course.proofs.Still as proof
use Rattle.wrp_course.proofs.laws.new_world_is_still.Goals as goal

pub returns : goal.returns
returns c = proof.new_world_is_still
