-- The lines that a reader holds, passed one after the other.
use Rattle.std.proofs.Common.{◌≡◌, inl, ℕ, ◌+◌, ◌<◌, ◌≤◌, Option, None, Some, MatchOption, List, [], ◌++◌, length, map, refl, sym, ◌∙◌, append-nil, arith}
use Rattle.std.proofs.KnownBytes.{Consumes-nil}
use Rattle.std.proofs.lemmas.List.{length-map}
use Rattle.wrp_records.specs.declared.engine.Ended.{Ended}
use Rattle.wrp_records.specs.declared.status.Status.{Status}
use Rattle.wrp_records.specs.declared.status.Status.TheVariants.{OutOfMemory}
use Rattle.wrp_records.specs.Engine.{LineOutcome}
use Rattle.wrp_records.specs.Lines.{content_of, IsWhole}
use Rattle.wrp_records.specs.Reached.{Reached, Stopped, Comes}
use Rattle.wrp_records.specs.Reader.{ReaderAt, IsNext, piece_limit}
use Rattle.wrp_records.specs.Stream.{Accepting, Refusing, Handles, Handling, IsWithin, number_limit}
use Rattle.wrp_records.proofs.Reaching.{Coming, comes, goes_on, stopped}

-- a line that was held is passed
unfoldable pub passes : (A : Accepting) (T : List (List ℕ) → Type 0) (start line : List ℕ) (r s : ReaderAt) (left rest held now : Option (List ℕ)) (waiting : List ℕ) (number : ℕ)
    → Reached A T start r left rest held now waiting number → r.rest ≡ line ++ s.rest → s.ended ≡ r.ended → Coming A T start line s left rest held now waiting number
passes A T start line r s left rest held now waiting number so_far same ended =
    comes A T start line r s left rest rest held now waiting number so_far ([], Consumes-nil rest, sym same ∙ sym (append-nil r.rest), λ was. (refl, ended ∙ was))

-- what a following line gives
abbrev pub Gives : Accepting → Refusing → (List (List ℕ) → Type 0) → (List (List ℕ) → Type 0) → List ℕ → ℕ → List ℕ → List ℕ → Option Ended → Type 0
Gives A R T U said number was waiting e = (lines : List (List ℕ)) (before : List ℕ) → T lines → A lines before → number + 1 ≡ length lines + 1 → LineOutcome A R U lines said before was waiting e

-- the line is whole and no larger than a line may be, and one more record may come
pub record Fits (line : List ℕ) (number : ℕ) (s : ReaderAt) : Type 0 where
  pub whole : IsWhole line
  pub within : IsWithin line
  pub below : number + 1 < number_limit
  pub piece : length s.rest ≤ piece_limit

counts : (lines : List (List ℕ)) (number : ℕ) → number ≡ length lines → number + 1 ≡ length (map content_of lines) + 1
counts lines number is = let same : length (map content_of lines) ≡ length lines = length-map _ _ in omega (arith, is, same)

-- one more line is handled, or ends the handling
pub goes_by : (A : Accepting) (R : Refusing) (T U : List (List ℕ) → Type 0) (start line said : List ℕ) (r s : ReaderAt) (left rest held now : Option (List ℕ)) (was waiting : List ℕ) (number : ℕ) (e : Option Ended)
    → Reached (Handles A) T start r left rest held now was number → r.rest ≡ line ++ s.rest → s.ended ≡ r.ended → Fits line number s → said ≡ content_of line
    → Gives A R T U said number was waiting e → Comes A R U start s left rest held now waiting (number + 1) e
goes_by A R T U start line said r s left rest held now was waiting number None so_far same ended fits is gives =
    let here = passes (Handles A) T start line r s left rest held now was number so_far same ended in
    goes_on A R T U start line said s left rest held now was waiting number here (inl fits.whole, fits.piece, fits.within, fits.below) is
    (gives (map content_of here.lines) here.text here.has here.handled.accepted (counts here.lines number here.count))
goes_by A R T U start line said r s left rest held now was waiting number (Some e) so_far same ended fits is gives =
    let here = passes (Handles A) T start line r s left rest held now was number so_far same ended in
    stopped A R T U start line said s left rest held now was waiting number e here (inl fits.whole, fits.piece, fits.within, fits.below) is
    (gives (map content_of here.lines) here.text here.has here.handled.accepted (counts here.lines number here.count))

-- the line and what the reader holds after it are what the reader has yet to give
unfoldable pub arrives : (H : Accepting) (T : List (List ℕ) → Type 0) (start line : List ℕ) (r : ReaderAt) (left rest held now : Option (List ℕ)) (waiting : List ℕ) (number : ℕ)
    → Coming H T start line r left rest held now waiting number → Reached H T start (record { rest = line ++ r.rest; ended = r.ended }) left rest held now waiting number
arrives H T start line r left rest held now waiting number so_far = record {
  given = so_far.given;
  lines = so_far.lines;
  text = so_far.text;
  out = so_far.out;
  taken = so_far.taken;
  written = so_far.written;
  waits = so_far.waits;
  all = so_far.all;
  first = so_far.first;
  handled = so_far.handled;
  has = so_far.has;
  count = so_far.count;
}

-- a line that was given, which may be the last one, is handled, or ends the handling
pub goes_next : (A : Accepting) (R : Refusing) (T U : List (List ℕ) → Type 0) (start line said : List ℕ) (s : ReaderAt) (left rest held now : Option (List ℕ)) (was waiting : List ℕ) (number : ℕ) (e : Option Ended)
    → Reached (Handles A) T start (record { rest = line ++ s.rest; ended = s.ended }) left rest held now was number
    → IsNext line s × (length s.rest ≤ piece_limit) × IsWithin line × (number + 1 < number_limit) → said ≡ content_of line
    → Gives A R T U said number was waiting e → Comes A R U start s left rest held now waiting (number + 1) e
goes_next A R T U start line said s left rest held now was waiting number None so_far next is gives =
    let here = passes (Handles A) T start line (record { rest = line ++ s.rest; ended = s.ended }) s left rest held now was number so_far refl refl in
    goes_on A R T U start line said s left rest held now was waiting number here next is
    (gives (map content_of here.lines) here.text here.has here.handled.accepted (counts here.lines number here.count))
goes_next A R T U start line said s left rest held now was waiting number (Some e) so_far next is gives =
    let here = passes (Handles A) T start line (record { rest = line ++ s.rest; ended = s.ended }) s left rest held now was number so_far refl refl in
    stopped A R T U start line said s left rest held now was waiting number e here next is
    (gives (map content_of here.lines) here.text here.has here.handled.accepted (counts here.lines number here.count))

-- without memory nothing more is expected
pub short : (A : Accepting) (R : Refusing) (T : List (List ℕ) → Type 0) (start : List ℕ) (r : ReaderAt) (left rest held now : Option (List ℕ)) (waiting : List ℕ) (number : ℕ)
    → Reached (Handles A) T start r left rest held now waiting number → Stopped A R start r left rest held now waiting OutOfMemory
short A R T start r left rest held now waiting number so_far = record {
  given = so_far.given;
  text = so_far.text;
  out = so_far.out;
  taken = so_far.taken;
  written = so_far.written;
  waits = so_far.waits;
  due = record { lines = so_far.lines; more = r.rest; all = so_far.all; first = so_far.first; handled = so_far.handled };
}

-- what the handling of the next record leads to
abbrev pub Ends : Accepting → Refusing → (List (List ℕ) → Type 0) → (List (List ℕ) → Type 0) → ReaderAt → ReaderAt → Option (List ℕ) → Option (List ℕ) → Option (List ℕ) → Option (List ℕ) → List ℕ → List ℕ → ℕ → ℕ → Option Status → Type 0
Ends A R T U r s rest further now then_ was waiting number more e = (start : List ℕ) (left held : Option (List ℕ))
    → Reached (Handles A) T start r left rest held now was number
    → MatchOption e (Reached (Handles A) U start s left further held then_ waiting more) (λ status. Handling A R U start s left further held then_ status)
