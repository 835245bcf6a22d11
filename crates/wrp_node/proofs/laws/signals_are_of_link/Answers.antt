-- Of what a port sends, Announce, Sync, Delay_Req, Follow_Up and Delay_Resp are no Signaling.
use Rattle.wrp_node.proofs.Sends.{signals_are_of_link}
use Rattle.wrp_node.proofs.laws.signals_are_of_link.Goals as goal

pub returns : goal.returns
returns c = signals_are_of_link
