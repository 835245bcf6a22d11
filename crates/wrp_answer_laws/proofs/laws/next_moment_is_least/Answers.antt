-- Moment by moment.
use Rattle.wrp_answer_laws.proofs.Moments.{next_is_least}
use Rattle.wrp_answer_laws.proofs.laws.next_moment_is_least.Goals as goal

pub returns : goal.returns
returns c = next_is_least
