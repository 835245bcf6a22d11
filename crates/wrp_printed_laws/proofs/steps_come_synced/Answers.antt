-- The last printed state of a servo is the state that it is in.
use Rattle.wrp_printed_laws.proofs.Syncing.{steps_come_synced}
use Rattle.wrp_printed_laws.proofs.steps_come_synced.Goals as goal

pub returns : goal.returns
returns c = steps_come_synced c.commands_are_held.ensures
