-- By its own lemma.
use Rattle.wrp_due_laws.proofs.Arriving.{next_arrival}
use Rattle.wrp_due_laws.proofs.laws.one_is_due_first.Goals as goal

pub returns : goal.returns
returns c = next_arrival
