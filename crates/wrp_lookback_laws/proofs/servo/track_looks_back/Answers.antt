-- TRACK, looking back.
use Rattle.wrp_lookback_laws.proofs.TrackLaws.{track_looks_back}
use Rattle.wrp_lookback_laws.proofs.servo.track_looks_back.Goals as goal

pub returns : goal.returns
returns c = track_looks_back (record {
  fours = record {
    laws = record {
      known = record { told = c.told_last.ensures; sum = c.phase_is_sum.ensures.sum; moves = c.phase_is_sum.ensures.moves };
      chain = c.chain_since.ensures;
      track = c.track_since.ensures;
      held = c.chain_is_held.ensures;
      inside = c.track_is_near.ensures.chain;
    };
    signals = c.chain_has_signals.ensures;
  };
  near = c.track_is_near.ensures.near;
})
