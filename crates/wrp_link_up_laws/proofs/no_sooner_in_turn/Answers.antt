use Rattle.wrp_link_up_laws.proofs.Worked as proof
use Rattle.wrp_link_up_laws.proofs.no_sooner_in_turn.Goals as goal

pub returns : goal.returns
returns c = proof.no_sooner_in_turn
