use Rattle.std.proofs.Common.{◌≡◌, length, map, take}
use Rattle.wrp_scene.proofs.scene.no_sums.Given as goal

abbrev pub invariant-loop-link : goal.invariant-loop-link
invariant-loop-link l =
    (l.sums.items ≡ map (λ link. 0) (take l._link-index l.links)) × (length l.sums.items ≡ l._link-index)
