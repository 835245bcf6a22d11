-- The delays of a scenario's fibres are in their ranges.
use Rattle.std.proofs.Common.{ℕ, ℤ, ◌^◌, ◌≤◌, List, [], ◌∷◌, zero, suc, arith}
use Rattle.std.specs.Prelude.{slice_get, unsigned_abs, unwrap_or}
use Rattle.std.specs.List.{AllByRecursion}
use Rattle.std.proofs.lemmas.Int.{ints}
use Rattle.wrp_network.specs.declared.configuration.NetCfg.{NetCfg}
use Rattle.wrp_network.specs.Network.{HasRanges}
use Rattle.wrp_base.specs.Ranges.{IsFromTo}
use Rattle.wrp_scene.specs.Scenario.{SceneAt, IsSceneOf, IsSum, delta_ms, delta_sm, fibre_room, sum_of}
use Rattle.wrp_scene.proofs.FibreSplit.{split}

-- each way takes at most the whole delay of both ways
pub down_range : (kappa : ℤ) (sum : ℕ) → unsigned_abs kappa ≤ 2 ^ 38 → IsFromTo 0 sum (delta_ms kappa sum)
down_range kappa sum small =
    let parts = split kappa sum sum 1 small (omega arith) (omega arith) in
    (parts.ms_least, parts.ms_most)

pub up_range : (kappa : ℤ) (sum : ℕ) → unsigned_abs kappa ≤ 2 ^ 38 → IsFromTo 0 sum (delta_sm kappa sum)
up_range kappa sum small =
    let parts = split kappa sum sum 1 small (omega arith) (omega arith) in
    (parts.sm_least, parts.sm_most)

-- an element of a list in which this holds for all elements, or the value for a place without an
-- element
all_at : {X : Type 0} (P : X → Type 0) (xs : List X) (n : ℕ) (x : X) → AllByRecursion P xs → P x → P (unwrap_or (slice_get xs n) x)
all_at P [] n x all is = is
all_at P (y ∷ xs) zero x all is = all.0
all_at P (y ∷ xs) (suc n) x all is = all_at P xs n x all.1 is

-- the delay of both ways of each fibre has room
pub sum_fits : (cfg : NetCfg) (scene : SceneAt) (l : ℕ) → IsSceneOf cfg scene → IsSum cfg (sum_of scene l)
sum_fits cfg scene l is = all_at (IsSum cfg) scene.sums l 0 is.sum (omega arith)

room_small : (cfg : NetCfg) → HasRanges cfg → fibre_room cfg ≤ 2 ^ 56
room_small cfg ranges =
    let most : unsigned_abs cfg.reach_ns ≤ 1_000_000_000 = omega (arith, ints, ranges.reach_ns.0, ranges.reach_ns.1) in
    omega (arith, most)

pub sum_small : (cfg : NetCfg) (scene : SceneAt) (l : ℕ) → HasRanges cfg → IsSceneOf cfg scene → sum_of scene l ≤ 2 ^ 60
sum_small cfg scene l ranges is = omega (arith, room_small cfg ranges, sum_fits cfg scene l is)
