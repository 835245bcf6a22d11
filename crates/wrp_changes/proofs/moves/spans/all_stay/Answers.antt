use Rattle.std.proofs.Common.{arith}
use Rattle.wrp_changes.proofs.StillFibres.{still_all, still_here, still_next}
use Rattle.wrp_changes.proofs.moves.spans.all_stay.Goals as goal

pub loop-by-init : goal.loop-by-init
loop-by-init c e k h = absurd (omega (arith, h))

pub loop-by-preserved : goal.loop-by-preserved
loop-by-preserved c e =
    let both = c.gathered-bits.ensures e in
    still_next c.args.moves.now c.loop-by.by-index (c.loop-by.invariant both.0) (still_here c.args.moves.now c.loop-by.by-index _ (omega arith) both.1)

pub returns : goal.returns
returns c e = still_all c.args.moves.now c.loop-by.by-index (omega arith) (c.loop-by.invariant (c.is_still.ensures.still e))
