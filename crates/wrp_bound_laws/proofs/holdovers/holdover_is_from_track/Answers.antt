use Rattle.wrp_bound_laws.proofs.Hops.Entering.{holdover_is_from_track}
use Rattle.wrp_bound_laws.proofs.holdovers.holdover_is_from_track.Goals as goal

pub returns : goal.returns
returns c = holdover_is_from_track (record {
  holds = record {
    held = c.holdover_since.ensures;
    track = c.track_since.ensures;
    chain = c.track_is_near.ensures.chain;
  };
  settles = c.step_settles.ensures;
  commands = c.commands_are_held.ensures;
  still = c.no_step_in_track.ensures;
})
