use Rattle.std.proofs.Common.{◌≡◌}
use Rattle.wrp_data.proofs.NonzeroCounts.{nonzero_before}
use Rattle.wrp_data.proofs.counters.Counters.nonzero.Given as goal

-- the pairs so far are those of the reasons so far whose counter is not 0
abbrev pub invariant-loop-reason : goal.invariant-loop-reason
invariant-loop-reason l = l.counts.items ≡ nonzero_before l.reason-index l.self
