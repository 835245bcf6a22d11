use Rattle.wrp_migrate.proofs.Sizes as proof
use Rattle.wrp_migrate.proofs.laws.migration_size.Goals as goal

pub returns : goal.returns
returns c = proof.migration_size
