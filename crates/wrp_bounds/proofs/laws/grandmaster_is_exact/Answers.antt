use Rattle.wrp_bounds.proofs.PathLaws.{grandmaster-exact}
use Rattle.wrp_bounds.proofs.laws.grandmaster_is_exact.Goals as goal

pub returns : goal.returns
returns c = grandmaster-exact
