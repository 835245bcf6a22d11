use Rattle.std.proofs.Common.{◌≡◌, pos, length, map, take}
use Rattle.wrp_scene.proofs.scene.no_frees.Given as goal

abbrev pub invariant-loop-node : goal.invariant-loop-node
invariant-loop-node l =
    (l.frees.items ≡ map (λ node. pos 0) (take l._node-index l.nodes)) × (length l.frees.items ≡ l._node-index)
