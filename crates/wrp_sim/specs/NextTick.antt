-- When nodes tick next: the first of their times that is not before a moment (this project's profile).
use Rattle.std.specs.Prelude.{◌≡◌, ◌+◌, ◌*◌, ◌<◌, ◌≤◌, ◌≤ℤ◌, ◌<ℤ◌, ◌&&◌, ◌⊎◌, ℕ, ℤ, Bool, false, if◌then◌else◌, List, Some, length, slice_get}
use Rattle.std.specs.Int.Signed.{le_z, lt_z}
use Rattle.std.specs.Ordering.{int_eq}
use Rattle.wrp_sim.specs.declared.ticks.First.{First}
use Rattle.wrp_sim.specs.declared.ticks.Soonest.{Soonest}

-- a time is before another one, and not before a moment
abbrev pub is_sooner : (since best at : ℤ) → Bool
is_sooner since best at = lt_z at best && le_z since at

-- a time at its place
abbrev pub time_of : (at : ℤ) (n : ℕ) → First
time_of at n = record { best = at; place = n }

-- the sooner of the first of some times, and of one more at its place
abbrev pub sooner_of : (since : ℤ) (first : First) (at : ℤ) (n : ℕ) → First
sooner_of since first at n = if is_sooner since first.best at then time_of at n else first

-- the earlier of the firsts of two lists of times, the first one if both are the same
abbrev pub earlier_of : (first other : First) → First
earlier_of first other = if lt_z other.best first.best then other else first

-- the time at a place is not before the first one: it is later, or the same at no earlier place
abbrev pub IsNoEarlier : First → ℕ → ℤ → Type 0
IsNoEarlier first n t = (first.best <ℤ t) ⊎ ((first.best ≡ t) × (first.place ≤ n))

-- no time of these places, from the moment on, is before this one
abbrev pub IsFirstOf : (since : ℤ) (ticks : List ℤ) (start end : ℕ) → First → Type 0
IsFirstOf since ticks start end first =
    (n : ℕ) (t : ℤ) → start ≤ n → n < end → slice_get ticks n ≡ Some t → (t <ℤ since) ⊎ IsNoEarlier first n t

-- no time from the moment on is before this one
pub record IsSoonest (ticks : List ℤ) (it : Soonest) : Type 0 where
  pub least : (n : ℕ) (t : ℤ) → slice_get ticks n ≡ Some t → (t <ℤ it.since) ⊎ IsNoEarlier it.first n t

-- these are the first times of the blocks of 8 places
pub record AreFirsts (since : ℤ) (ticks : List ℤ) (firsts : List First) : Type 0 where
  pub place : (b : ℕ) (first : First) → slice_get firsts b ≡ Some first → first.place ≤ b * 8 + 8
  pub least : (b : ℕ) (first : First) → slice_get firsts b ≡ Some first → IsFirstOf since ticks (b * 8) (b * 8 + 8) first

-- there are enough times for blocks, and enough blocks for the times
abbrev pub HasBlocks : ℕ → Type 0
HasBlocks count = (16 < count) × (count ≤ 64)

-- what is kept beside the times is true of them
pub record IsKept (ticks : List ℤ) (firsts : List First) (it : Soonest) : Type 0 where
  pub soonest : IsSoonest ticks it
  pub blocks : HasBlocks (length ticks) → AreFirsts it.since ticks firsts

-- the moment has come, and the first time has not
abbrev pub is_ahead : Soonest → ℤ → Bool
is_ahead it now = le_z it.since now && lt_z now it.first.best

-- the moment has come, and the first time is not over
abbrev pub is_left : Soonest → ℤ → Bool
is_left it now = le_z it.since now && le_z now it.first.best

-- no time is now
abbrev pub NoneAt : ℤ → List ℤ → Type 0
NoneAt now ticks = (n : ℕ) (t : ℤ) → slice_get ticks n ≡ Some t → int_eq t now ≡ false

-- no time before this place is now
abbrev pub NoneBefore : ℤ → List ℤ → ℕ → Type 0
NoneBefore now ticks place = (n : ℕ) (t : ℤ) → n < place → slice_get ticks n ≡ Some t → int_eq t now ≡ false

-- this is the first of the times after now
pub record IsNext (now : ℤ) (ticks : List ℤ) (n : ℕ) (at : ℤ) : Type 0 where
  pub there : slice_get ticks n ≡ Some at
  pub later : now <ℤ at
  pub least : (m : ℕ) (t : ℤ) → slice_get ticks m ≡ Some t → (t ≤ℤ now) ⊎ (at ≤ℤ t)
