-- What is true of each event follows from the laws of every run.
use Rattle.std.specs.Prelude.{◌∷◌}
use Rattle.wrp_world.proofs.run_laws.events_hold.Goals as goal

pub returns-clause-links : goal.returns-clause-links
returns-clause-links c = λ s h before run. record {
  handshakes = c.reported_link_on_is_earned.ensures.earned s (h ∷ before) run;
  judged = c.ports_are_judged.ensures s (h ∷ before) run;
  reports = c.reported_link_on_is_earned.ensures.reports s h before run;
  drops = c.dropped_frames_leave_a_count.ensures s h before;
}

pub returns-clause-tracks : goal.returns-clause-tracks
returns-clause-tracks c = λ s h before true_run. record {
  offsets = λ n within up. c.offsets_keep_bounds.ensures s (h ∷ before) n true_run within up;
  reports = c.reports_are_within.ensures s h before true_run;
  chains = λ k link hop at numbers chain. c.chain_has_constant.ensures s (h ∷ before) k link hop true_run.run true_run.fit at numbers chain;
}
