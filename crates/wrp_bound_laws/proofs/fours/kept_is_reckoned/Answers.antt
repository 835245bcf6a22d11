use Rattle.wrp_bound_laws.proofs.Measurements.KeptRuns.{kept_is_reckoned}
use Rattle.wrp_bound_laws.proofs.fours.kept_is_reckoned.Goals as goal

pub returns : goal.returns
returns c = kept_is_reckoned (record {
  told = c.told_last.ensures;
  signals = c.chain_has_signals.ensures;
  links = c.step_gives_links.ensures;
})
