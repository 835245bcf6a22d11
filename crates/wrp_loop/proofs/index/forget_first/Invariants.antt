use Rattle.std.proofs.Common.{length}
use Rattle.wrp_loop.specs.Index.{Forgets}
use Rattle.wrp_loop.proofs.index.forget_first.Given as goal

abbrev pub invariant-first : goal.invariant-first
invariant-first g l = Forgets (λ f x y. g.F.Fn.post f (x, tt) y) l.world l.fn.came.items l.came.items

abbrev pub decreases-first : goal.decreases-first
decreases-first g l = length l.came.items
