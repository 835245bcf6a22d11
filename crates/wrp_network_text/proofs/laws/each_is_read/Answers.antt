use Rattle.wrp_network_text.proofs.EachRead.{each_is_read as law}
use Rattle.wrp_network_text.proofs.laws.each_is_read.Goals as goal

pub returns : goal.returns
returns c = law
