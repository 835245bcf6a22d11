-- The chain and its first sample, looking back.
use Rattle.wrp_lookback_laws.proofs.ChainLaws.{chain_looks_back}
use Rattle.wrp_lookback_laws.proofs.FirstLaws.{first_looks_back}
use Rattle.wrp_lookback_laws.proofs.servo.chain_looks_back.Goals as goal

pub returns-clause-stands : goal.returns-clause-stands
returns-clause-stands c = chain_looks_back (record {
  known = record { told = c.told_last.ensures; sum = c.phase_is_sum.ensures.sum; moves = c.phase_is_sum.ensures.moves };
  chain = c.chain_since.ensures;
  track = c.track_since.ensures;
  held = c.chain_is_held.ensures;
  inside = c.track_is_near.ensures.chain;
})

pub returns-clause-first : goal.returns-clause-first
returns-clause-first c = first_looks_back (record {
  known = record { told = c.told_last.ensures; sum = c.phase_is_sum.ensures.sum; moves = c.phase_is_sum.ensures.moves };
  chain = c.chain_since.ensures;
  track = c.track_since.ensures;
  held = c.chain_is_held.ensures;
  inside = c.track_is_near.ensures.chain;
})
