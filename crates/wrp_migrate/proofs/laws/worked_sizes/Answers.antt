use Rattle.wrp_migrate.proofs.WorkedSizes as proof
use Rattle.wrp_migrate.proofs.laws.worked_sizes.Goals as goal

pub returns : goal.returns
returns c = proof.worked_sizes
