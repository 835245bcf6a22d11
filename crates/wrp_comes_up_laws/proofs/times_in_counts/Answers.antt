use Rattle.wrp_comes_up_laws.proofs.Asked as proof
use Rattle.wrp_comes_up_laws.proofs.times_in_counts.Goals as goal

pub returns : goal.returns
returns c = proof.times_in_counts
