-- The bound of a node among those that are at hand.
use Rattle.std.proofs.Common.{◌≡◌, ◌∙◌, ap, ℕ, ℤ, pos, ◌^◌, ◌<◌, ◌<ℤ◌, of_z, subst, to_z, List, length, get_or, arith}
use Rattle.std.proofs.lemmas.Int.{fits_signed_from_abs, ints, to_z-of_z}
use Rattle.std.proofs.lemmas.Option.{slice_get-get_or}
use Rattle.std.specs.Int.{w128}
use Rattle.wrp_network.specs.Network.{node_count}
use Rattle.wrp_network.specs.declared.configuration.NetCfg.{NetCfg}
use Rattle.wrp_bounds.specs.Bounds.{path_of}
use Rattle.wrp_network_world.specs.Bounds.{AreBounds}
use Rattle.wrp_plant.specs.Plant.{Each}

-- each of some numbers has its place
pub each_at : {A : Type 0} (P : ℕ → A → Type 0) (xs : List A) (i n : ℕ) (d : A) → Each P xs → i < length xs → i ≡ n → P n (get_or xs i d)
each_at P xs i n d all is same = subst (λ (k : ℕ). P k (get_or xs i d)) same (all i (get_or xs i d) (slice_get-get_or xs i d is))

-- no path that is worked out is too great
pub small_path : (bound : ℤ) (path : ℕ) → bound ≡ pos path → bound <ℤ pos (2 ^ 100) → path < 2 ^ 100
small_path bound path is less =
    let own = subst (λ (z : ℤ). z <ℤ pos (2 ^ 100)) is less in
    omega (arith, ints, own)

-- it is at the node's place
pub bound_at : (cfg : NetCfg) (bounds : List ℤ) (i n : ℕ) → AreBounds cfg bounds → n < node_count cfg → i ≡ n
    → to_z w128 (of_z w128 (get_or bounds i (pos 0))) ≡ pos (path_of cfg n)
bound_at cfg bounds i n all is same =
    let count = all.count in
    let within : i < length bounds = omega (arith, count, is, same) in
    let small : path_of cfg n < 2 ^ 100 = each_at (λ k bound. path_of cfg k < 2 ^ 100) bounds i n (pos 0) all.small within same in
    let fits : path_of cfg n < 2 ^ 127 = omega (arith, small) in
    ap (λ (z : ℤ). to_z w128 (of_z w128 z)) (each_at (λ k bound. bound ≡ pos (path_of cfg k)) bounds i n (pos 0) all.each within same)
    ∙ to_z-of_z w128 (pos (path_of cfg n)) (fits_signed_from_abs w128 (pos (path_of cfg n)) fits)
