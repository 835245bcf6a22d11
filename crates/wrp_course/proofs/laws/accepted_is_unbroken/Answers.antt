use Rattle.wrp_course.proofs.Unbroken as proof
use Rattle.wrp_course.proofs.laws.accepted_is_unbroken.Goals as goal

pub returns : goal.returns
returns c = proof.accepted_is_unbroken
