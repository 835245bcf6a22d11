use Rattle.wrp_course.proofs.Bounds as proof
use Rattle.wrp_course.proofs.laws.sample_keeps_beat_pattern.Goals as goal

pub returns : goal.returns
returns c = proof.sample_keeps
