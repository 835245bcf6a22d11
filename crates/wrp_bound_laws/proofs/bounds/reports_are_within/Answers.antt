use Rattle.wrp_bound_laws.proofs.Hops.BoundReports.{track_reports_are_true}
use Rattle.wrp_bound_laws.proofs.bounds.reports_are_within.Goals as goal

pub returns : goal.returns
returns c = track_reports_are_true (record {
  bounds = c.offsets_keep_bounds.ensures;
  estimates = c.estimates_are_near.ensures;
  source = c.lease_has_source.ensures.chain;
  chain = c.track_is_near.ensures.chain;
})
