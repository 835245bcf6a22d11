use Rattle.std.proofs.Common.{take, reverse}
use Rattle.std.specs.List.{AllByRecursion}
use Rattle.wrp_check.specs.Handshake.{IsBacked}
use Rattle.wrp_check.specs.Stretches.{movers_of}
use Rattle.wrp_check.proofs.movers.first_missing.Given as goal

-- nothing that the messages so far require is missing
abbrev pub invariant-loop-mark : goal.invariant-loop-mark
invariant-loop-mark l =
    AllByRecursion (λ found. IsBacked l.role (reverse l.stretch) found) (movers_of (reverse (take l.mark-index l.own)))
