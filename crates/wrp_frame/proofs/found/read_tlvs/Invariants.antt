-- The walk has reached `at` and has found `found`.
use Rattle.std.proofs.Common.{length, ◌-◌}
use Rattle.wrp_frame.proofs.Walk.{Walked}
use Rattle.wrp_frame.proofs.found.read_tlvs.Given as goal

abbrev pub invariant-loop-at : goal.invariant-loop-at
invariant-loop-at l = Walked l.part l.at l.found

abbrev pub decreases-loop-at : goal.decreases-loop-at
decreases-loop-at l = length l.part - l.at
