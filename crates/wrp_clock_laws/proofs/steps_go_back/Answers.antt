use Rattle.wrp_clock_laws.proofs.Worked as proof
use Rattle.wrp_clock_laws.proofs.steps_go_back.Goals as goal

pub returns : goal.returns
returns c = proof.steps_back
