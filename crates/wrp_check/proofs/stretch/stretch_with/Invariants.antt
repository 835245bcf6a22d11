use Rattle.std.proofs.Common.{length, reverse}
use Rattle.wrp_check.specs.Stretches.{stretches_of}
use Rattle.wrp_check.proofs.Splitting.{MissedSoFar}
use Rattle.wrp_check.proofs.stretch.stretch_with.Given as goal

-- the time lies in none of the stretches after those that are left
abbrev pub invariant-loop-older : goal.invariant-loop-older
invariant-loop-older l = MissedSoFar l.time (stretches_of (reverse l.marks)) (stretches_of (reverse l.older))

abbrev pub decreases-loop-older : goal.decreases-loop-older
decreases-loop-older l = length l.older
