-- The frames that departed, as they are seen: when each of them was put out, and those that are kept (this
-- project's profile).
use Rattle.std.specs.Prelude.{◌≡◌, ◌+◌, ◌==◌, ◌++◌, ℕ, zero, suc, ℤ, Bool, false, if◌then◌else◌, List, [], ◌∷◌, length, Option, None, Some, slice_get}
use Rattle.std.specs.BTreeMap.{is_at}
use Rattle.std.specs.Map.{lookup}
use Rattle.std.specs.Option.{option_map_or}
use Rattle.std.specs.Ordering.{nat_cmp}
use Rattle.wrp_flights.specs.declared.departed.Departed.{Departed}
use Rattle.wrp_flights.specs.Departed.{is_on, kept_in, turn_in}

-- the true time from which on a frame that was put out is young; when each frame was put out, by number from 1 on;
-- and the frames that are kept, by their numbers
pub record FramesAt : Type 0 where
  pub horizon : ℤ
  pub sent : List ℤ
  pub kept : List (ℕ × Departed)

-- when the frame with this number was put out
abbrev pub sent_at : ℕ → List ℤ → Option ℤ
sent_at zero sent = None
sent_at (suc i) sent = slice_get sent i

-- the frame with this number, if it is kept
abbrev pub at : ℕ → List (ℕ × Departed) → Option Departed
at k kept = lookup (is_at (nat_cmp k)) kept

-- whether the frame with this number is on a fibre
abbrev pub on_at : List (ℕ × Departed) → ℕ → Bool
on_at kept k = option_map_or is_on (at k kept) false

-- so many numbers, ascending from the first of them
abbrev pub numbers_from : (count first : ℕ) → List ℕ
numbers_from zero first = []
numbers_from (suc count) first = first ∷ numbers_from count (first + 1)

-- each frame is changed by its number, and the frames that are then no longer kept are forgotten
pub record Turned (change : ℕ → Departed → Departed) (old new : FramesAt) : Type 0 where
  pub horizon : new.horizon ≡ old.horizon
  pub sent : new.sent ≡ old.sent
  pub kept : (k : ℕ) → at k new.kept ≡ turn_in old.horizon (change k) (at k old.kept)

-- the horizon is now this one, and the frames that are then no longer kept are forgotten
pub record Passes (horizon : ℤ) (old new : FramesAt) : Type 0 where
  pub horizon_is : new.horizon ≡ horizon
  pub sent : new.sent ≡ old.sent
  pub kept : (k : ℕ) → at k new.kept ≡ kept_in horizon (at k old.kept)

-- a frame departed with the next number
pub record Puts (frame : Departed) (old new : FramesAt) : Type 0 where
  pub horizon : new.horizon ≡ old.horizon
  pub sent : new.sent ≡ old.sent ++ (frame.sent ∷ [])
  pub kept : (k : ℕ) → at k new.kept ≡ (if k == (length old.sent + 1) then Some frame else at k old.kept)

-- if there was one
abbrev pub Departs : Option Departed → (old new : FramesAt) → Type 0
Departs None old new = new ≡ old
Departs (Some frame) old new = Puts frame old new
