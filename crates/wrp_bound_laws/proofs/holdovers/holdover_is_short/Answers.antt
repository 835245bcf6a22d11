use Rattle.wrp_bound_laws.proofs.Hops.HeldRuns.{holdover_is_short}
use Rattle.wrp_bound_laws.proofs.holdovers.holdover_is_short.Goals as goal

pub returns : goal.returns
returns c = holdover_is_short (record {
  holds = record {
    held = c.holdover_since.ensures;
    track = c.track_since.ensures;
    chain = c.track_is_near.ensures.chain;
  };
  apart = c.ticks_are_apart.ensures;
  commands = c.commands_are_held.ensures;
  still = c.no_step_in_track.ensures;
})
