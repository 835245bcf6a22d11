-- If it was marked, it no longer is, and its fibre does not move.
use Rattle.std.proofs.Common.{pos}
use Rattle.wrp_trace.specs.Places.{moves_in}
use Rattle.wrp_trace.proofs.PlaceLemmas.{rests_cleared}
use Rattle.wrp_trace.proofs.events.marks.forget_move.Goals as goal

pub returns-then-deref-l-clause-rest : goal.returns-then-deref-l-clause-rest
returns-then-deref-l-clause-rest c =
    rw (c.set_mark.ensures, c.write_move.ensures.set) (rests_cleared (pos 0, pos 0) c.args.marks.now.items (moves_in c.args.event.now) c.args.l c.requires.rest)
