use Rattle.wrp_config.proofs.Reached.{modules_are_listed as law}
use Rattle.wrp_config.proofs.laws.modules_are_listed.Goals as goal

pub returns : goal.returns
returns c = law
