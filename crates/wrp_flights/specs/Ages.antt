-- The ages of frames that are kept: when they were put out, each with its number, and how frames are dropped by
-- their ages (this project's profile).
use Rattle.std.specs.Prelude.{◌≡◌, ◌<◌, ◌<ℤ◌, ◌≤ℤ◌, ◌⊎◌, ℕ, ℤ, Bool, true, false, cond, if◌then◌else◌, List, length, Option, None, Some}
use Rattle.std.specs.BTreeMap.{is_at}
use Rattle.std.specs.List.{list_any}
use Rattle.std.specs.Ordering.{nat_cmp, int_cmp, ordering_then}
use Rattle.std.specs.declared.cmp.Ordering.{Ordering}
use Rattle.wrp_flights.specs.declared.departed.Departed.{Departed}
use Rattle.wrp_flights.specs.Departed.{is_kept, is_on, is_young}
use Rattle.wrp_flights.specs.Frames.{at, sent_at}

-- the order of ages: by time, and then by number
abbrev pub age_cmp : ℤ × ℕ → ℤ × ℕ → Ordering
age_cmp a b = ordering_then (int_cmp a.0 b.0) (nat_cmp a.1 b.1)

abbrev pub has : ℤ → ℕ → List (ℤ × ℕ) → Bool
has t k ages = list_any (is_at (age_cmp (t, k))) ages

-- a time was added to them, with a number
pub record Adds (time : ℤ) (number : ℕ) (old new : List (ℤ × ℕ)) : Type 0 where
  pub each : (t : ℤ) (k : ℕ) → has t k new ≡ cond (is_at (age_cmp (time, number)) (t, k)) true (has t k old)
  pub there : has time number new ≡ true

-- they are as they were, except that this time with this number may be gone
pub record AddsNone (time : ℤ) (number : ℕ) (old new : List (ℤ × ℕ)) : Type 0 where
  pub stays : (t : ℤ) (k : ℕ) → is_at (age_cmp (time, number)) (t, k) ≡ false → has t k new ≡ has t k old
  pub fewer : (t : ℤ) (k : ℕ) → has t k new ≡ true → has t k old ≡ true

-- a frame that is kept is on a fibre or young, and was put out at the time given for it; the ages list each
-- young one
pub record Aged (horizon : ℤ) (sent : List ℤ) (kept : List (ℕ × Departed)) (ages : List (ℤ × ℕ)) : Type 0 where
  pub told : (k : ℕ) (d : Departed) → at k kept ≡ Some d → sent_at k sent ≡ Some d.sent
  pub kept_is : (k : ℕ) (d : Departed) → at k kept ≡ Some d → is_kept horizon d ≡ true
  pub young : (k : ℕ) (d : Departed) → at k kept ≡ Some d → is_young horizon d ≡ true → has d.sent k ages ≡ true
  pub dated : (t : ℤ) (k : ℕ) → has t k ages ≡ true → sent_at k sent ≡ Some t

-- How frames are dropped

-- none of the ages is before this time
abbrev pub NoneOld : ℤ → List (ℤ × ℕ) → Type 0
NoneOld horizon ages = (t : ℤ) (k : ℕ) → has t k ages ≡ true → horizon ≤ℤ t

-- an age that is before this time was taken out
pub record TookOld (horizon : ℤ) (old new : List (ℤ × ℕ)) (k : ℕ) : Type 0 where
  pub time : ℤ
  pub is_old : time <ℤ horizon
  pub was : has time k old ≡ true
  pub fewer : (t : ℤ) (q : ℕ) → has t q new ≡ true → has t q old ≡ true
  pub others : (t : ℤ) (q : ℕ) → has t q old ≡ true → is_at (nat_cmp k) q ≡ false → has t q new ≡ true
  pub less : length new < length old

abbrev pub TakesOld : ℤ → (old new : List (ℤ × ℕ)) → Option ℕ → Type 0
TakesOld horizon old new None = NoneOld horizon old × (new ≡ old)
TakesOld horizon old new (Some k) = TookOld horizon old new k

-- a frame stays if it is on a fibre
abbrev pub on_only : Option Departed → Option Departed
on_only None = None
on_only (Some d) = if is_on d then Some d else None

-- an age of a frame that is kept is the time at which that frame was put out
abbrev pub Owns : List (ℕ × Departed) → List (ℤ × ℕ) → Type 0
Owns kept ages = (t : ℤ) (k : ℕ) (d : Departed) → has t k ages ≡ true → at k kept ≡ Some d → d.sent ≡ t

-- the ages list each frame that is kept and is on no fibre or young
abbrev pub Listed : ℤ → List (ℕ × Departed) → List (ℤ × ℕ) → Type 0
Listed horizon kept ages = (k : ℕ) (d : Departed) → at k kept ≡ Some d → (is_on d ≡ false) ⊎ (is_young horizon d ≡ true) → has d.sent k ages ≡ true
