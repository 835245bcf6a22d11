-- By its own lemma.
use Rattle.wrp_answer_laws.proofs.AcceptedLines.{accepted_is_audit}
use Rattle.wrp_answer_laws.proofs.laws.accepted_is_audit.Goals as goal

pub returns : goal.returns
returns c = accepted_is_audit c.reading_is_accepted.ensures
