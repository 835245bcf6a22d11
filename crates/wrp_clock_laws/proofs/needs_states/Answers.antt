use Rattle.wrp_clock_laws.proofs.WorkedRun as proof
use Rattle.wrp_clock_laws.proofs.needs_states.Goals as goal

pub returns : goal.returns
returns c = proof.runs_backward
