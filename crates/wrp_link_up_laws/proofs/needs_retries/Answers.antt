use Rattle.wrp_link_up_laws.proofs.Alone as proof
use Rattle.wrp_link_up_laws.proofs.needs_retries.Goals as goal

pub returns : goal.returns
returns c = proof.needs_retries
