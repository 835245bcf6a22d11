use Rattle.wrp_link.proofs.Orders as proof
use Rattle.wrp_link.proofs.laws.idle_keeps_no_deltas.Goals as goal

pub returns : goal.returns
returns c = proof.idle_keeps_no_deltas
