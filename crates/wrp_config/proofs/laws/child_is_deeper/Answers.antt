use Rattle.wrp_config.proofs.Reached.{child_is_deeper as law}
use Rattle.wrp_config.proofs.laws.child_is_deeper.Goals as goal

pub returns : goal.returns
returns c = law
