use Rattle.wrp_bound_laws.proofs.Measurements.TrackLimits.{track_keeps_limits}
use Rattle.wrp_bound_laws.proofs.safety.track_keeps_limits.Goals as goal

pub returns : goal.returns
returns c = track_keeps_limits (record {
  told = c.told_last.ensures;
  chain = c.track_is_near.ensures.chain;
  near = c.track_is_near.ensures.near;
  young = c.track_is_young.ensures;
})
