use Rattle.wrp_bounds.proofs.PathLaws.{path-child}
use Rattle.wrp_bounds.proofs.laws.path_of_child.Goals as goal

pub returns : goal.returns
returns c = path-child
