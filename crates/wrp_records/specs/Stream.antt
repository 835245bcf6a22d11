-- The records of an input as they come, one line each: which of them are handled, and what the
-- output then is for each status (this project's profile).
use Rattle.std.specs.Prelude.{◌≡◌, ◌⊎◌, true, false, ℕ, ◌+◌, ◌^◌, ◌<◌, ◌≤◌, ◌==◌, Option, List, [], ◌∷◌, ◌++◌, length, map, take, codes}
use Rattle.std.specs.List.{position_or_len, concat, AllByRecursion}
use Rattle.std.specs.Fmt.{decimal}
use Rattle.std.specs.Io.KnownBytes.{Appends, Consumes}
use Rattle.wrp_records.specs.declared.status.Status.{Status}
use Rattle.wrp_records.specs.declared.status.Status.TheVariants.{Done, BadTrace, Broken, ReadFault, WriteFault, TooLarge, OutOfMemory}
use Rattle.wrp_records.specs.declared.machine.Refusal.{Refusal}
use Rattle.wrp_records.specs.declared.machine.Refusal.TheVariants as refusals
use Rattle.wrp_records.specs.Lines.{line_feed, lines_of, content_of, HasNoFeed, IsWhole}
use Rattle.wrp_records.specs.Reader.{ReaderAt, IsNext, IsCut, IsLast, piece_limit}

-- how many octets a record's line may have before its LF
abbrev pub line_limit : ℕ
line_limit = 8_192

-- the number that no record may reach
abbrev pub number_limit : ℕ
number_limit = 2 ^ 32

-- how many octets a line has before its LF
abbrev pub size_of : List ℕ → ℕ
size_of line = position_or_len (λ octet. octet == line_feed) line

-- a record's line that is not too large
abbrev pub IsWithin : List ℕ → Type 0
IsWithin line = size_of line ≤ line_limit

-- the line after so many records is too large, or has too great a number
abbrev pub IsTooLarge : List ℕ → ℕ → Type 0
IsTooLarge line number = (line_limit < size_of line) ⊎ (number + 1 ≡ number_limit)

-- the next line has an octet and is too large, or has too great a number
abbrev pub IsLargeNext : List ℕ → ReaderAt → ℕ → Type 0
IsLargeNext line r number =
    (IsNext line r ⊎ IsCut line r) × (0 < length line) × IsTooLarge line number

-- the line has no LF yet and is not too large, and the input did not end
abbrev pub IsCutWithin : List ℕ → ReaderAt → ℕ → Type 0
IsCutWithin line r number =
    IsCut line r × (length line ≤ line_limit) × (0 < length line → number + 1 < number_limit)
    × (r.ended ≡ false)

-- the last line of output if a record, counted from 1, is too large
abbrev pub large_line : ℕ → List ℕ
large_line number = codes "too-large " ++ decimal number ++ 10 ∷ []

-- which lines, by what they say, are records, and what these write
abbrev pub Accepting : Type 1
Accepting = List (List ℕ) → List ℕ → Type 0

-- which line is refused after some others, and the last line that names it
abbrev pub Refusing : Type 1
Refusing = List (List ℕ) → List ℕ → Refusal → List ℕ → Type 0

-- the lines are records that are handled, and this is what they write
pub record Handles (A : Accepting) (lines : List (List ℕ)) (text : List ℕ) : Type 0 where
  pub sizes : AllByRecursion IsWithin lines
  pub count : length lines < number_limit
  pub accepted : A (map content_of lines) text

-- after whole lines comes a line, and at most one piece after it
pub record StandsBehind (octets : List ℕ) (lines : List (List ℕ)) (line past : List ℕ)
    : Type 0 where
  pub all : octets ≡ concat lines ++ (line ++ past)
  pub whole : AllByRecursion IsWhole lines
  pub piece : length past ≤ piece_limit

-- the first lines of these octets are handled: some whole ones, or all to the end of the input
pub record FirstHandled (A : Accepting) (octets : List ℕ) (r : ReaderAt) (text : List ℕ)
    : Type 0 where
  pub lines : List (List ℕ)
  pub more : List ℕ
  pub all : octets ≡ concat lines ++ more
  pub first : AllByRecursion IsWhole lines
      ⊎ ((r.ended ≡ true) × (more ≡ []) × (lines_of octets ≡ lines))
  pub handled : Handles A lines text

-- the whole lines are handled, and the cut line after them is not too large
pub record CutHandled (A : Accepting) (octets text : List ℕ) : Type 0 where
  pub lines : List (List ℕ)
  pub cut : List ℕ
  pub all : octets ≡ concat lines ++ cut
  pub whole : AllByRecursion IsWhole lines
  pub plain : HasNoFeed cut
  pub size : length cut ≤ line_limit
  pub number : 0 < length cut → length lines + 1 < number_limit
  pub handled : Handles A lines text

-- a line is refused, and all lines before it are handled
pub record RefusedAt (A : Accepting) (R : Refusing) (refusal : Refusal)
    (octets : List ℕ) (r : ReaderAt) (text : List ℕ) : Type 0 where
  pub lines : List (List ℕ)
  pub line : List ℕ
  pub before : List ℕ
  pub last : List ℕ
  pub stands : StandsBehind octets lines line r.rest
  pub next : IsNext line r
  pub within : IsWithin line
  pub number : length lines + 1 < number_limit
  pub handled : Handles A lines before
  pub refused : R (map content_of lines) (content_of line) refusal last
  pub is : text ≡ before ++ last

-- a line is too large or has too great a number, and all lines before it are handled
pub record TooLargeAt (A : Accepting) (octets : List ℕ) (r : ReaderAt) (text : List ℕ)
    : Type 0 where
  pub lines : List (List ℕ)
  pub line : List ℕ
  pub before : List ℕ
  pub all : octets ≡ concat lines ++ (line ++ r.rest)
  pub whole : AllByRecursion IsWhole lines
  pub next : IsNext line r ⊎ IsCut line r
  pub some : 0 < length line
  pub large : IsTooLarge line (length lines)
  pub handled : Handles A lines before
  pub is : text ≡ before ++ large_line (length lines + 1)

-- what is expected for a status that ends the handling before the end of the input
abbrev pub Due : Accepting → Refusing → List ℕ → ReaderAt → Status → List ℕ → Type 0
Due A R octets r BadTrace text = RefusedAt A R refusals.BadTrace octets r text
Due A R octets r Broken text = RefusedAt A R refusals.Broken octets r text
Due A R octets r TooLarge text = TooLargeAt A octets r text
Due A R octets r OutOfMemory text = FirstHandled A octets r text
Due A R octets r _ text = ⊥

-- what the output is after the records, for each status
abbrev pub Outcome : Accepting → Refusing → List ℕ → ReaderAt → Status → List ℕ → Type 0
Outcome A R octets r Done text = IsLast r × Handles A (lines_of octets) text
Outcome A R octets r ReadFault text = CutHandled A octets text
Outcome A R octets r WriteFault text =
    (status : Status) × (due : List ℕ) × (count : ℕ) × Due A R octets r status due
    × (text ≡ take count due)
Outcome A R octets r status text = Due A R octets r status text

-- what was taken from the source and written to the sink, and what the output then is
pub record Handling (A : Accepting) (R : Refusing) (T : List (List ℕ) → Type 0)
    (start : List ℕ) (r : ReaderAt) (left rest held now : Option (List ℕ)) (status : Status)
    : Type 0 where
  pub given : List ℕ
  pub text : List ℕ
  pub taken : Consumes left rest given
  pub written : Appends held now text
  pub stands : Outcome A R (start ++ given) r status text
  pub done : status ≡ Done → T (map content_of (lines_of (start ++ given)))
