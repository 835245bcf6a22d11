use Rattle.wrp_course.proofs.Bounds as proof
use Rattle.wrp_course.proofs.laws.arrival_keeps_stamp_bound.Goals as goal

pub returns : goal.returns
returns c = proof.arrival_keeps
