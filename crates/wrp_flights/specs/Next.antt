-- The frames on fibres in the order in which they are due, and the one that is due first (this project's profile).
use Rattle.std.specs.Prelude.{◌≡◌, ◌<◌, ◌≤◌, ◌<ℤ◌, ◌⊎◌, ℕ, ℤ, Bool, true, false, List, length, Option, None, Some}
use Rattle.std.specs.Ordering.{is_gt}
use Rattle.wrp_flights.specs.declared.departed.Departed.{Departed}
use Rattle.wrp_flights.specs.Ages.{age_cmp, has}
use Rattle.wrp_flights.specs.Departed.{is_on}
use Rattle.wrp_flights.specs.Frames.{at, on_at}

-- this frame, which is on a fibre, is due no later than any other frame on a fibre: sooner, or at the same
-- time with a lower number
pub record IsSoonest (kept : List (ℕ × Departed)) (number : ℕ) (due : ℤ) : Type 0 where
  pub frame : Departed
  pub is : at number kept ≡ Some frame
  pub on : is_on frame ≡ true
  pub when : frame.due ≡ due
  pub least : (k : ℕ) (d : Departed) → at k kept ≡ Some d → is_on d ≡ true → (due <ℤ d.due) ⊎ ((due ≡ d.due) × (number ≤ k))

-- the frame that is due first, if any is on a fibre
abbrev pub IsFirst : List (ℕ × Departed) → Option (ℕ × ℤ) → Type 0
IsFirst kept None = (k : ℕ) (d : Departed) → at k kept ≡ Some d → is_on d ≡ false
IsFirst kept (Some first) = IsSoonest kept first.0 first.1

-- The due times, each with the number of its frame

-- each frame on a fibre is listed with the time at which it is due
abbrev pub Dues : List (ℕ × Departed) → List (ℤ × ℕ) → Type 0
Dues kept dues = (k : ℕ) (d : Departed) → at k kept ≡ Some d → is_on d ≡ true → has d.due k dues ≡ true

-- none of them comes before this one
abbrev pub IsLeast : ℤ → ℕ → List (ℤ × ℕ) → Type 0
IsLeast t k dues = (u : ℤ) (q : ℕ) → has u q dues ≡ true → is_gt (age_cmp (t, k) (u, q)) ≡ false

-- whether the first of them, if there is one, belongs to a frame on a fibre
abbrev pub FirstIs : Bool → List (ℕ × Departed) → List (ℤ × ℕ) → Type 0
FirstIs on kept dues = (t : ℤ) (k : ℕ) → has t k dues ≡ true → IsLeast t k dues → on_at kept k ≡ on

-- the numbers in them were given, and for a frame that is kept they have the time at which it is
-- due
pub record Dated (sent : List ℤ) (kept : List (ℕ × Departed)) (dues : List (ℤ × ℕ)) : Type 0 where
  pub due : (t : ℤ) (k : ℕ) (d : Departed) → has t k dues ≡ true → at k kept ≡ Some d → d.due ≡ t
  pub given : (t : ℤ) (k : ℕ) → has t k dues ≡ true → k ≤ length sent

-- they are the due times of all frames on fibres, and the first belongs to one of these frames
pub record Orders (sent : List ℤ) (kept : List (ℕ × Departed)) (dues : List (ℤ × ℕ)) : Type 0 where
  pub listed : Dues kept dues
  pub dated : Dated sent kept dues
  pub first : FirstIs true kept dues

-- the first one was taken out; its frame is on no fibre
pub record TookLanded (kept : List (ℕ × Departed)) (old new : List (ℤ × ℕ)) : Type 0 where
  pub others : (t : ℤ) (k : ℕ) → has t k old ≡ true → on_at kept k ≡ true → has t k new ≡ true
  pub fewer : (t : ℤ) (k : ℕ) → has t k new ≡ true → has t k old ≡ true
  pub less : length new < length old
