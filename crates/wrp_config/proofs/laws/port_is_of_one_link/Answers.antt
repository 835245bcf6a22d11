use Rattle.wrp_config.proofs.Reached.{port_is_of_one_link as law}
use Rattle.wrp_config.proofs.laws.port_is_of_one_link.Goals as goal

pub returns : goal.returns
returns c = law
