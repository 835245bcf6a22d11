-- Telling the servo leaves every link as it is.
use Rattle.wrp_node.proofs.Links.{step_gives_links}
use Rattle.wrp_node.proofs.laws.step_gives_links.Goals as goal

pub returns : goal.returns
returns c = step_gives_links
