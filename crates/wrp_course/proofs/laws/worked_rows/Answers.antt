use Rattle.wrp_course.proofs.Rows as proof
use Rattle.wrp_course.proofs.laws.worked_rows.Goals as goal

pub returns : goal.returns
returns c = proof.worked_rows
