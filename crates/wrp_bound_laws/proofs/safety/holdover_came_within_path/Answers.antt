use Rattle.wrp_bound_laws.proofs.Hops.HeldSteps.{holdover_came_within_path}
use Rattle.wrp_bound_laws.proofs.safety.holdover_came_within_path.Goals as goal

pub returns : goal.returns
returns c = holdover_came_within_path (record {
  held = record {
    holds = record {
      held = c.holdover_since.ensures;
      track = c.track_since.ensures;
      chain = c.track_is_near.ensures.chain;
    };
    apart = c.ticks_are_apart.ensures;
    commands = c.commands_are_held.ensures;
    still = c.no_step_in_track.ensures;
  };
  counted = c.ticks_are_counted.ensures;
  short = c.holdover_is_short.ensures;
  leaves = c.holdover_is_from_track.ensures;
  bounds = c.offsets_keep_bounds.ensures;
})
