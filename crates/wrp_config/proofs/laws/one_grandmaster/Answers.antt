use Rattle.wrp_config.proofs.Reached.{one_grandmaster as law}
use Rattle.wrp_config.proofs.laws.one_grandmaster.Goals as goal

pub returns : goal.returns
returns c = law
