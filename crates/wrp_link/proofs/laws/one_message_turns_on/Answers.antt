use Rattle.wrp_link.proofs.Orders as proof
use Rattle.wrp_link.proofs.laws.one_message_turns_on.Goals as goal

pub returns : goal.returns
returns c = proof.one_message_turns_on
