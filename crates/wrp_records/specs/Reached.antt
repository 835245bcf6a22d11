-- How far the handling of records has come, and how it stops (this project's profile).
use Rattle.std.specs.Prelude.{◌≡◌, ◌⊎◌, true, ℕ, Option, None, Some, List, [], ◌++◌, length, map}
use Rattle.std.specs.List.{concat, AllByRecursion}
use Rattle.std.specs.Io.KnownBytes.{Appends, Consumes}
use Rattle.wrp_records.specs.declared.engine.Ended.{Ended}
use Rattle.wrp_records.specs.declared.status.Status.{Status}
use Rattle.wrp_records.specs.Engine.{status_by}
use Rattle.wrp_records.specs.Lines.{lines_of, content_of, IsWhole}
use Rattle.wrp_records.specs.Reader.{ReaderAt}
use Rattle.wrp_records.specs.Stream.{Accepting, Refusing, Due, Handles}

-- the lines so far are handled, what they write is written or waits, and the reader holds what follows
pub record Reached (H : Accepting) (T : List (List ℕ) → Type 0) (start : List ℕ) (r : ReaderAt)
    (left rest held now : Option (List ℕ)) (waiting : List ℕ) (number : ℕ) : Type 0 where
  pub given : List ℕ
  pub lines : List (List ℕ)
  pub text : List ℕ
  pub out : List ℕ
  pub taken : Consumes left rest given
  pub written : Appends held now out
  pub waits : text ≡ out ++ waiting
  pub all : start ++ given ≡ concat lines ++ r.rest
  pub first : AllByRecursion IsWhole lines
      ⊎ ((r.ended ≡ true) × (r.rest ≡ []) × (lines_of (start ++ given) ≡ lines))
  pub handled : H lines text
  pub has : T (map content_of lines)
  pub count : number ≡ length lines

-- the handling ends with a status, and what is expected for it is written or waits
pub record Stopped (A : Accepting) (R : Refusing) (start : List ℕ) (r : ReaderAt)
    (left rest held now : Option (List ℕ)) (waiting : List ℕ) (status : Status) : Type 0 where
  pub given : List ℕ
  pub text : List ℕ
  pub out : List ℕ
  pub taken : Consumes left rest given
  pub written : Appends held now out
  pub waits : text ≡ out ++ waiting
  pub due : Due A R (start ++ given) r status text

-- the handling has come so far, or ends in this way
abbrev pub Comes : Accepting → Refusing → (List (List ℕ) → Type 0) → List ℕ → ReaderAt
    → Option (List ℕ) → Option (List ℕ) → Option (List ℕ) → Option (List ℕ) → List ℕ → ℕ
    → Option Ended → Type 0
Comes A R T start r left rest held now waiting number None =
    Reached (Handles A) T start r left rest held now waiting number
Comes A R T start r left rest held now waiting number (Some ended) =
    Stopped A R start r left rest held now waiting (status_by ended)
