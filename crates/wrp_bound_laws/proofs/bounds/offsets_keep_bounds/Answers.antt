use Rattle.wrp_bound_laws.proofs.Hops.HopsUp.{offsets_keep_bounds}
use Rattle.wrp_bound_laws.proofs.bounds.offsets_keep_bounds.Goals as goal

pub returns : goal.returns
returns c = offsets_keep_bounds (record {
  follow = record {
    track = record {
      constant = c.chain_has_constant.ensures;
      four = c.four_holds_in_track.ensures;
      kept = c.kept_is_reckoned.ensures;
      fibre = c.fibre_holds_while_on.ensures;
      chain = c.track_is_near.ensures.chain;
      near = c.track_is_near.ensures.near;
      gives = c.track_gives.ensures;
      estimate = c.hop_holds.ensures.estimate;
      hop = c.hop_holds.ensures.track;
    };
    source = c.lease_has_source.ensures.chain;
    top = c.clocks_move_slowly.ensures.top;
  };
  short = c.holdover_is_short.ensures;
  leaves = c.holdover_is_from_track.ensures;
  tree = c.tree_sum.ensures;
  held = c.held_within_motion.ensures;
})
