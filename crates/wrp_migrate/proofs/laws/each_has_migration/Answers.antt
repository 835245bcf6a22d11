-- By the reading of the input.
use Rattle.wrp_migrate.proofs.EachAnswer.{each_has_migration as law}
use Rattle.wrp_migrate.proofs.laws.each_has_migration.Goals as goal

pub returns : goal.returns
returns c = law
