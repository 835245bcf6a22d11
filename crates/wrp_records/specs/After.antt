-- What the output is when the handling of an input ends, for each status (this project's profile).
use Rattle.std.specs.Prelude.{◌≡◌, ◌⊎◌, ℕ, ◌≤◌, Bool, true, false, List, [], ◌++◌, length, take}
use Rattle.wrp_io.specs.declared.link.LinkCall.{LinkCall}
use Rattle.wrp_records.specs.declared.status.Status.{Status}
use Rattle.wrp_records.specs.declared.status.Status.TheVariants.{Done, BadTrace, Broken, ReadFault, WriteFault, LinkFault, OutOfMemory, BadCapture, BadCalib}
use Rattle.wrp_records.specs.Meaning.{Meaning}
use Rattle.wrp_records.specs.Reader.{piece_limit}

-- more octets may follow those that were taken, unless the input ended
abbrev pub GoesOn : Bool → List ℕ → Type 0
GoesOn ended more = ended ≡ true → more ≡ []

-- however the input goes on, this status and this text are expected
abbrev pub IsDue : Meaning → List ℕ → Bool → List LinkCall → Status → List ℕ → Type 0
IsDue M taken ended calls status text =
    (more : List ℕ) → GoesOn ended more → M.answers (taken ++ more) calls status text

-- however the input goes on, its first records write this
abbrev pub IsFirst : Meaning → List ℕ → Bool → List LinkCall → List ℕ → Type 0
IsFirst M taken ended calls text =
    (more : List ℕ) → GoesOn ended more → M.first (taken ++ more) calls text

-- a refusal ends a front of what was taken, and at most one piece follows that front
pub record StopsNear (M : Meaning) (status : Status) (taken : List ℕ) : Type 0 where
  pub front : List ℕ
  pub past : List ℕ
  pub all : taken ≡ front ++ past
  pub piece : length past ≤ piece_limit
  pub refused : M.refused status front

-- what the output is, given what was taken and whether the input ended with it
abbrev pub After : Meaning → List ℕ → Bool → List LinkCall → Status → List ℕ → Type 0
After M taken ended calls Done text = (ended ≡ true) × M.answers taken calls Done text
After M taken ended calls BadCalib text = (ended ≡ true) × IsDue M taken ended calls BadCalib text
After M taken ended calls BadTrace text =
    IsDue M taken ended calls BadTrace text × StopsNear M BadTrace taken
After M taken ended calls Broken text =
    IsDue M taken ended calls Broken text × StopsNear M Broken taken
After M taken ended calls BadCapture text =
    IsDue M taken ended calls BadCapture text × StopsNear M BadCapture taken
After M taken ended calls ReadFault text =
    (ended ≡ false) × (calls ≡ []) × M.cut taken text
After M taken ended calls WriteFault text =
    (due : List ℕ) × (count : ℕ) × (text ≡ take count due)
    × (((status : Status) × IsDue M taken ended calls status due)
    ⊎ IsFirst M taken ended calls due)
After M taken ended calls LinkFault text = (ended ≡ true) × M.unlinked taken calls text
After M taken ended calls OutOfMemory text = IsFirst M taken ended calls text
After M taken ended calls status text = IsDue M taken ended calls status text
