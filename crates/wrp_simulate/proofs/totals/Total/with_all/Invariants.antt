-- The outputs before this one are counted.
use Rattle.wrp_simulate.proofs.SimLines.{Counted}
use Rattle.wrp_simulate.proofs.totals.Total.with_all.Given as goal

abbrev pub invariant-loop-out : goal.invariant-loop-out
invariant-loop-out l = Counted l.off l.outs l.out-index l.fn.self l.total
