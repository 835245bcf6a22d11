use Rattle.wrp_bound_laws.proofs.Hops.TrackedHops.{estimates_are_near}
use Rattle.wrp_bound_laws.proofs.bounds.estimates_are_near.Goals as goal

pub returns : goal.returns
returns c = estimates_are_near (record {
  constant = c.chain_has_constant.ensures;
  four = c.four_holds_in_track.ensures;
  kept = c.kept_is_reckoned.ensures;
  fibre = c.fibre_holds_while_on.ensures;
  chain = c.track_is_near.ensures.chain;
  near = c.track_is_near.ensures.near;
  gives = c.track_gives.ensures;
  estimate = c.hop_holds.ensures.estimate;
  hop = c.hop_holds.ensures.track;
})
