-- By its own lemma.
use Rattle.wrp_due_laws.proofs.Heard.{heard_by_lines}
use Rattle.wrp_due_laws.proofs.laws.frames_are_heard.Goals as goal

pub returns : goal.returns
returns c = heard_by_lines
