-- By the law of the document.
use Rattle.wrp_migrate.proofs.Keeping.{keeps}
use Rattle.wrp_migrate.proofs.laws.migration_keeps.Goals as goal

pub returns : goal.returns
returns c = keeps
