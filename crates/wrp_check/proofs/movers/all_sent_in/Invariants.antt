use Rattle.std.proofs.Common.{take, reverse}
use Rattle.std.specs.List.{AllByRecursion}
use Rattle.wrp_check.specs.Stretches.{LiesIn, movers_of}
use Rattle.wrp_check.proofs.movers.all_sent_in.Given as goal

-- the messages so far were sent in the stretch
abbrev pub invariant-loop-mark : goal.invariant-loop-mark
invariant-loop-mark l =
    AllByRecursion (λ found. LiesIn found.1 (reverse l.stretch)) (movers_of (reverse (take l.mark-index l.own)))
