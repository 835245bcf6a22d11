-- What the answer to an input of `l1sync` shows of both ends, record by record (this project's profile).
use Rattle.std.specs.Prelude.{◌≡◌, ℕ, ◌+◌, List, [], ◌++◌, length, map}
use Rattle.std.specs.List.{AllByRecursion, concat}
use Rattle.wrp_base.specs.declared.fault.TraceFault.{TraceFault}
use Rattle.wrp_io.specs.declared.link.LinkCall.{LinkCall}
use Rattle.wrp_l1sync.specs.declared.event.Breach.{Breach}
use Rattle.wrp_l1sync.specs.LineRecords.{Accepts, meaning}
use Rattle.wrp_l1sync.specs.LineText.{breach_line}
use Rattle.wrp_l1sync.specs.LineTheorem.{ShowsAfterEach}
use Rattle.wrp_records.specs.ByLines.{of_lines}
use Rattle.wrp_records.specs.declared.status.Status.{Status}
use Rattle.wrp_records.specs.declared.status.Status.TheVariants.{Done, BadTrace, Broken, TooLarge}
use Rattle.wrp_records.specs.Lines.{HasNoFeed, IsWhole, content_of, lines_of}
use Rattle.wrp_records.specs.Refusals.{bad_trace_line}
use Rattle.wrp_records.specs.Stream.{large_line}

-- the last line of an answer with this status names the record of this number
abbrev pub Names : Status → ℕ → List ℕ → Type 0
Names BadTrace number last = (fault : TraceFault) × (last ≡ bad_trace_line number fault)
Names Broken number last = (breach : Breach) × (last ≡ breach_line number breach)
Names TooLarge number last = last ≡ large_line number
Names status number last = ⊥

-- the first lines of an input are records; what they write comes first, and after it a last line that names the next
-- record; after each of them it shows the state of both ends
pub record ShowsFirst (status : Status) (input text : List ℕ) : Type 0 where
  pub front : List (List ℕ)
  pub behind : List (List ℕ)
  pub written : List ℕ
  pub last : List ℕ
  pub divided : lines_of input ≡ front ++ behind
  pub is : text ≡ written ++ last
  pub names : Names status (length front + 1) last
  pub accepted : Accepts (map content_of front) written
  pub shows : ShowsAfterEach (map content_of front) written

-- what an answer shows: if it is Done, for all lines of the input
abbrev pub ShowsBy : Status → (input text : List ℕ) → Type 0
ShowsBy Done input text = Accepts (map content_of (lines_of input)) text × ShowsAfterEach (map content_of (lines_of input)) text
ShowsBy status input text = ShowsFirst status input text

-- each answer that is expected for an input does
abbrev pub AnswersShowThePair : Type 0
AnswersShowThePair =
    (input : List ℕ) (status : Status) (text : List ℕ) → (of_lines meaning).answers input [] status text → ShowsBy status input text

-- what is left of an answer that broke off: the first lines of an input are records, and this is what they write
pub record ShowsFront (input text : List ℕ) : Type 0 where
  pub front : List (List ℕ)
  pub behind : List (List ℕ)
  pub divided : lines_of input ≡ front ++ behind
  pub accepted : Accepts (map content_of front) text
  pub shows : ShowsAfterEach (map content_of front) text

-- what is left if the source failed after these octets: their whole lines are records, and this is what they write
pub record ShowsWhole (taken text : List ℕ) : Type 0 where
  pub lines : List (List ℕ)
  pub cut : List ℕ
  pub all : taken ≡ concat lines ++ cut
  pub whole : AllByRecursion IsWhole lines
  pub rest : HasNoFeed cut
  pub accepted : Accepts (map content_of lines) text
  pub shows : ShowsAfterEach (map content_of lines) text

-- what is left of any answer shows both ends so, and before the first record the empty text does
pub record WhatStandsShowsThePair : Type 0 where
  pub first : (input : List ℕ) (calls : List LinkCall) (text : List ℕ) → (of_lines meaning).first input calls text → ShowsFront input text
  pub cut : (taken text : List ℕ) → (of_lines meaning).cut taken text → ShowsWhole taken text
  pub none : (input : List ℕ) → ShowsFront input []
