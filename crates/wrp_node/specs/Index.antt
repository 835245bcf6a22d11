-- The places of a node's ports, by their numbers.
use Rattle.std.specs.Prelude.{◌≡◌, ◌≢◌, ℕ, ◌-◌, ◌<◌, ◌≤◌, ◌==◌, false, List, [], ◌∷◌, map, length, slice_index, slice_index_or, Option, None, Some}
use Rattle.std.specs.List.{AllByRecursion, list_any}
use Rattle.wrp_node.specs.declared.place.PortPlace.{PortPlace}

-- the numbers of these ports
abbrev pub numbers_in : List PortPlace → List ℕ
numbers_in places = map (λ place. place.number) places

-- numbers of which no two are the same
abbrev pub AreDifferent : List ℕ → Type 0
AreDifferent [] = Unit {0}
AreDifferent (q ∷ qs) = AllByRecursion (λ r. r ≢ q) qs × AreDifferent qs

-- a number is at this place among these, counted from 0; or at none
abbrev pub IsWhere : ℕ → List ℕ → Option ℕ → Type 0
IsWhere p numbers None = list_any (λ q. q == p) numbers ≡ false
IsWhere p numbers (Some at) = (at < length numbers) × (slice_index numbers at ≡ p)

-- an index gives the place of each number from 1 to 18
abbrev pub Indexes : List (Option ℕ) → List ℕ → Type 0
Indexes index numbers = (p : ℕ) → 1 ≤ p → p ≤ 18 → IsWhere p numbers (slice_index_or index (p - 1) None)

-- ports of different numbers, at most 18, and their index
pub record AreIndexed (places : List PortPlace) (index : List (Option ℕ)) : Type 0 where
  pub few : length places ≤ 18
  pub different : AreDifferent (numbers_in places)
  pub told : Indexes index (numbers_in places)
