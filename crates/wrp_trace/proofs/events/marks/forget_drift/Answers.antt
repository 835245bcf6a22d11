-- If it was marked, it no longer is, and its clock does not move.
use Rattle.std.proofs.Common.{pos}
use Rattle.wrp_trace.specs.Places.{drifts_in}
use Rattle.wrp_trace.proofs.PlaceLemmas.{rests_cleared}
use Rattle.wrp_trace.proofs.events.marks.forget_drift.Goals as goal

pub returns-then-deref-n-clause-rest : goal.returns-then-deref-n-clause-rest
returns-then-deref-n-clause-rest c =
    rw (c.set_mark.ensures, c.write_drift.ensures.set) (rests_cleared (pos 0) c.args.marks.now.items (drifts_in c.args.event.now) c.args.n c.requires.rest)
