-- By its own lemma.
use Rattle.wrp_answer_laws.proofs.AcceptedLines.{run_of_lines_is_audit}
use Rattle.wrp_answer_laws.proofs.laws.run_of_lines_is_audit.Goals as goal

pub returns : goal.returns
returns c = run_of_lines_is_audit c.reading_is_accepted.ensures
