use Rattle.wrp_lossless_laws.proofs.Worked.{worked_links}
use Rattle.wrp_lossless_laws.proofs.worked_links.Goals as goal

pub returns : goal.returns
returns c = worked_links
