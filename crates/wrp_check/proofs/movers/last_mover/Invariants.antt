use Rattle.std.proofs.Common.{◌≡◌, take, reverse}
use Rattle.std.specs.Prelude.{slice_get}
use Rattle.wrp_check.specs.Stretches.{movers_of}
use Rattle.wrp_check.proofs.movers.last_mover.Given as goal

-- the last message of the marks so far
abbrev pub invariant-loop-mark : goal.invariant-loop-mark
invariant-loop-mark l = l.last ≡ slice_get (movers_of (reverse (take l.mark-index l.own))) 0
