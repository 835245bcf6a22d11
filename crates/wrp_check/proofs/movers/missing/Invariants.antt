use Rattle.std.proofs.Common.{take, reverse}
use Rattle.wrp_check.proofs.Entering.{EnteredSoFar}
use Rattle.wrp_check.proofs.movers.missing.Given as goal

-- this many of the states were entered, and no more of them
abbrev pub invariant-loop-mark : goal.invariant-loop-mark
invariant-loop-mark l = EnteredSoFar l.time l.states (reverse (take l.mark-index l.stretch)) l.entered
