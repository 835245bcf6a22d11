-- The audit and the emission belong to one run, and the inputs that it gives the node are the
-- inputs of the replay.
use Rattle.wrp_projection_laws.proofs.Projected.{replay_of_emitted}
use Rattle.wrp_projection_laws.proofs.laws.replay_of_emitted_inputs.Goals as goal

pub returns : goal.returns
returns c = replay_of_emitted c.inputs_are_recorded.ensures c.reading_is_accepted.ensures c.one_audit.ensures
