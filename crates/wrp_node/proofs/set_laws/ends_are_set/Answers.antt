-- The ports are found by their numbers.
use Rattle.wrp_node.proofs.SetLaws.{ends_are_set}
use Rattle.wrp_node.proofs.set_laws.ends_are_set.Goals as goal

pub returns : goal.returns
returns c = ends_are_set
