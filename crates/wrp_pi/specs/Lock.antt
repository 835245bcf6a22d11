-- The lock detector: a count of errors within a threshold, with hysteresis, over the errors since its last restart (this project's profile).
use Rattle.std.specs.Prelude.{ℕ, ℤ, ◌≡◌, ◌≢◌, ◌+◌, ◌-◌, ◌≤◌, ◌↔◌, Bool, false, IsTrue, ◌==◌, ◌||◌, ◌&&◌, nat_le, nat_lt, min, unsigned_abs, if◌then◌else◌, List, [], ◌∷◌, length, drop}

-- the greatest error that counts, the count at which the detector locks, and the count at which it unlocks
pub record Limits : Type 0 where
  pub threshold : ℕ
  pub lock : ℕ
  pub delock : ℕ

-- a count above `delock` falls by one
abbrev pub fallen : Limits → ℕ → ℕ
fallen limits count = if nat_lt limits.delock count then count - 1 else count

-- the count after one more error: an error within the threshold raises it by one, up to `lock`; any other lets it fall, and a count then at or below `delock` becomes 0
abbrev pub next_count : Limits → ℕ → ℤ → ℕ
next_count limits count e =
    if nat_le (unsigned_abs e) limits.threshold then min limits.lock (count + 1)
    else (if nat_le (fallen limits count) limits.delock then 0 else fallen limits count)

-- the count after these errors since a restart, newest first
abbrev pub count_after : Limits → List ℤ → ℕ
count_after limits [] = 0
count_after limits (e ∷ before) = next_count limits (count_after limits before) e

-- the detector is locked: i errors ago the count was `lock`, and from there on it was never 0
abbrev pub IsLocked : Limits → List ℤ → Type 0
IsLocked limits errors =
    (i : ℕ) × (i ≤ length errors) × (count_after limits (drop i errors) ≡ limits.lock) ×
    ((j : ℕ) → j ≤ i → count_after limits (drop j errors) ≢ 0)

-- what a lock detector is seen as: its limits, its count, and whether it is locked
pub record Detector : Type 0 where
  pub limits : Limits
  pub count : ℕ
  pub locked : Bool

-- an unlocked detector, with a count of 0
abbrev pub rested : Limits → Detector
rested limits = record { limits = limits; count = 0; locked = false }

-- whether it is locked at this next count: from `lock` on, until the count is 0
abbrev pub is_locked_at : Detector → ℕ → Bool
is_locked_at d count = count == d.limits.lock || (d.locked && nat_lt 0 count)

-- a detector that took one more error
abbrev pub updated : Detector → ℤ → Detector
updated d e =
    let count : ℕ = next_count d.limits d.count e in
    record { limits = d.limits; count = count; locked = is_locked_at d count }

-- the detector has taken these errors since its last restart, newest first
pub record StandsFor (detector : Detector) (errors : List ℤ) : Type 0 where
  pub count : detector.count ≡ count_after detector.limits errors
  pub locked : IsTrue detector.locked ↔ IsLocked detector.limits errors
