-- By what each command writes.
use Rattle.wrp_asked.proofs.PrintedRuns.{runs_print_within_bounds}
use Rattle.wrp_asked.proofs.laws.runs_print_within_bounds.Goals as goal

pub returns : goal.returns
returns c = runs_print_within_bounds (record {
  accepted = c.reading_is_accepted.ensures;
  audits = c.events_carry_parts.ensures;
  inputs = c.emissions_tell_no_track.ensures;
  simulations = c.made_events_carry_parts.ensures;
  loops = c.looped_events_carry_parts.ensures;
  one = c.one_audit.ensures;
  apart = c.loop_is_audited.ensures;
})
