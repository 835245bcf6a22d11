use Rattle.wrp_check.proofs.Splitting.{SplitSoFar}
use Rattle.wrp_check.proofs.stretch.split_newest.Given as goal

-- where the newest stretch of the marks so far begins
abbrev pub invariant-loop-i : goal.invariant-loop-i
invariant-loop-i l = SplitSoFar l.marks l.start l.i
