-- The frames on a fibre as they are listed, and what the window of frames keeps at all times (this project's profile).
use Rattle.std.specs.Prelude.{◌≡◌, ◌==◌, ◌⊎◌, not, ℕ, ℤ, Bool, true, false, List, [], ◌∷◌, Some}
use Rattle.wrp_flights.specs.declared.departed.Departed.{Departed}
use Rattle.wrp_flights.specs.declared.departed.OnFibre.{OnFibre}
use Rattle.wrp_flights.specs.Ages.{Aged}
use Rattle.wrp_flights.specs.Departed.{is_on, is_young}
use Rattle.wrp_flights.specs.Frames.{at}
use Rattle.wrp_flights.specs.Next.{Orders}

-- a frame with this number, as it is listed
abbrev pub entry_of : ℕ → Departed → OnFibre
entry_of k d = record { number = k; link = d.link; by = d.by }

-- this is one of the listed frames
abbrev pub IsAmong : OnFibre → List OnFibre → Type 0
IsAmong it [] = ⊥
IsAmong it (first ∷ listed) = (first ≡ it) ⊎ IsAmong it listed

-- a listed frame has another number than this
abbrev pub is_other : ℕ → OnFibre → Bool
is_other number it = not (it.number == number)

-- each frame on a fibre is listed
abbrev pub Lists : List (ℕ × Departed) → List OnFibre → Type 0
Lists kept listed = (k : ℕ) (d : Departed) → at k kept ≡ Some d → is_on d ≡ true → IsAmong (entry_of k d) listed

-- a frame that is kept is on a fibre and listed, or is on no fibre and young
abbrev pub Settled : ℤ → List (ℕ × Departed) → List OnFibre → Type 0
Settled horizon kept listed =
    (k : ℕ) (d : Departed) → at k kept ≡ Some d
    → ((is_on d ≡ true) × IsAmong (entry_of k d) listed) ⊎ ((is_on d ≡ false) × (is_young horizon d ≡ true))

-- what the window keeps at all times
pub record Holds (horizon : ℤ) (sent : List ℤ) (kept : List (ℕ × Departed)) (ages : List (ℤ × ℕ)) (listed : List OnFibre) (dues : List (ℤ × ℕ)) : Type 0 where
  pub aged : Aged horizon sent kept ages
  pub lists : Lists kept listed
  pub orders : Orders sent kept dues
