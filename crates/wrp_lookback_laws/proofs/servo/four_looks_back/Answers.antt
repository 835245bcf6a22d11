-- The four, looking back.
use Rattle.wrp_lookback_laws.proofs.FourLaws.{four_looks_back}
use Rattle.wrp_lookback_laws.proofs.servo.four_looks_back.Goals as goal

pub returns : goal.returns
returns c = four_looks_back (record {
  laws = record {
    known = record { told = c.told_last.ensures; sum = c.phase_is_sum.ensures.sum; moves = c.phase_is_sum.ensures.moves };
    chain = c.chain_since.ensures;
    track = c.track_since.ensures;
    held = c.chain_is_held.ensures;
    inside = c.track_is_near.ensures.chain;
  };
  signals = c.chain_has_signals.ensures;
})
