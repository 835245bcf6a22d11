-- By its own lemma.
use Rattle.wrp_answer_laws.proofs.SimulatedHeard.{simulated_is_heard}
use Rattle.wrp_answer_laws.proofs.laws.simulated_is_heard.Goals as goal

pub returns : goal.returns
returns c = simulated_is_heard c.reading_is_accepted.ensures c.simulator_keeps_the_bounds.ensures.runs
