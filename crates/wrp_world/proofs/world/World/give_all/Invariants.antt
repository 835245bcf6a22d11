-- The inputs so far were taken.
use Rattle.wrp_world.proofs.AllTake.{TakenTo}
use Rattle.wrp_world.proofs.world.World.give_all.Given as goal

abbrev pub invariant-loop-k : goal.invariant-loop-k
invariant-loop-k g l =
    TakenTo (λ f x. g.F.Fn.pre f (x, tt)) (λ f x y. g.F.Fn.post f (x, tt) y) l.fn.put l.fn.self l.self l.fn.outs.items l.outs.items l.k
