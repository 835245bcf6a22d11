use Rattle.wrp_bound_laws.proofs.Measurements.FourTrack.{four_holds_in_track}
use Rattle.wrp_bound_laws.proofs.fours.four_holds_in_track.Goals as goal

pub returns : goal.returns
returns c = four_holds_in_track (record {
  syncs = c.syncs_tell.ensures;
  delays = c.delays_tell.ensures;
  moments = record {
    source = c.lease_has_source.ensures.chain;
    near = c.ticks_are_on_time.ensures.near;
    step = c.ticks_are_on_time.ensures.step;
    within = c.ticks_tell_time.ensures.within;
  };
  age = record {
    told = c.told_last.ensures;
    chain = c.track_is_near.ensures.chain;
    near = c.track_is_near.ensures.near;
    young = c.track_is_young.ensures;
  };
})
