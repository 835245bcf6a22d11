-- One new node for each law that was taken so far.
use Rattle.std.proofs.Common.{◌≡◌, ◌≤◌, length, drop}
use Rattle.wrp_world.specs.New.{IsNewNode}
use Rattle.wrp_plant.specs.Plant.{Each}
use Rattle.wrp_world.proofs.world.new.new_nodes.Given as goal

abbrev pub invariant-loop-law : goal.invariant-loop-law
invariant-loop-law g l =
    (goal.iterator-loop-law g).can_next l.law-iterator
    × (goal.iterator-loop-law g).is_finite l.law-iterator
    × (l.law-iterator.rest.items ≡ drop l.n l.fn.laws.items)
    × (length l.nodes.items ≡ l.n)
    × (l.n ≤ length l.fn.laws.items)
    × Each (IsNewNode (λ f x. g.F.Fn.pre f (x, tt)) (λ f x y. g.F.Fn.post f (x, tt) y) l.fn.net.cfg l.fn.laws.items) l.nodes.items
