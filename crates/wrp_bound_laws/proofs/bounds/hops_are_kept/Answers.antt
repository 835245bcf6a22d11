-- By what each hop keeps.
use Rattle.wrp_bound_laws.proofs.Hops.HopsUp.{siblings_agree, tracks_add_up, tracks_follow}
use Rattle.wrp_bound_laws.proofs.bounds.hops_are_kept.Goals as goal

pub returns-clause-follows : goal.returns-clause-follows
returns-clause-follows c = tracks_follow (record {
  track = record {
    constant = c.chain_has_constant.ensures;
    four = c.four_holds_in_track.ensures;
    kept = c.kept_is_reckoned.ensures;
    fibre = c.fibre_holds_while_on.ensures;
    chain = c.track_is_near.ensures.chain;
    near = c.track_is_near.ensures.near;
    gives = c.track_gives.ensures;
    estimate = c.hop_holds.ensures.estimate;
    hop = c.hop_holds.ensures.track;
  };
  source = c.lease_has_source.ensures.chain;
  top = c.clocks_move_slowly.ensures.top;
})

pub returns-clause-siblings : goal.returns-clause-siblings
returns-clause-siblings c = siblings_agree (record {
  track = record {
    constant = c.chain_has_constant.ensures;
    four = c.four_holds_in_track.ensures;
    kept = c.kept_is_reckoned.ensures;
    fibre = c.fibre_holds_while_on.ensures;
    chain = c.track_is_near.ensures.chain;
    near = c.track_is_near.ensures.near;
    gives = c.track_gives.ensures;
    estimate = c.hop_holds.ensures.estimate;
    hop = c.hop_holds.ensures.track;
  };
  source = c.lease_has_source.ensures.chain;
  top = c.clocks_move_slowly.ensures.top;
})

pub returns-clause-way : goal.returns-clause-way
returns-clause-way c = tracks_add_up (record {
  track = record {
    constant = c.chain_has_constant.ensures;
    four = c.four_holds_in_track.ensures;
    kept = c.kept_is_reckoned.ensures;
    fibre = c.fibre_holds_while_on.ensures;
    chain = c.track_is_near.ensures.chain;
    near = c.track_is_near.ensures.near;
    gives = c.track_gives.ensures;
    estimate = c.hop_holds.ensures.estimate;
    hop = c.hop_holds.ensures.track;
  };
  source = c.lease_has_source.ensures.chain;
  top = c.clocks_move_slowly.ensures.top;
})
