-- By the reading of the input.
use Rattle.wrp_migrate.proofs.Unique.{one_migration as law}
use Rattle.wrp_migrate.proofs.laws.one_migration.Goals as goal

pub returns : goal.returns
returns c = law
