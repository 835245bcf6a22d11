use Rattle.wrp_migrate.proofs.Sizes as proof
use Rattle.wrp_migrate.proofs.laws.small_texts_fit.Goals as goal

pub returns : goal.returns
returns c = proof.small_texts_fit
