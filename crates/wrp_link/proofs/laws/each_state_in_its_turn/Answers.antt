use Rattle.wrp_link.proofs.Orders as proof
use Rattle.wrp_link.proofs.laws.each_state_in_its_turn.Goals as goal

pub returns : goal.returns
returns c = proof.each_state_in_its_turn
