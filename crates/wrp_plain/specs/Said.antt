-- What the printed lines show of the true offset between ticks: each report with the step line that follows it, whatever the
-- records say and wherever the output ends (this project's profile).
use Rattle.std.specs.Prelude.{◌≡◌, ◌⊎◌, ℕ, ℤ, pos, neg_ℤ, ◌+◌, ◌≤ℤ◌, ◌+ℤ◌, ◌-ℤ◌, unsigned_abs, List, [], ◌∷◌, ◌++◌, length, map, codes, Ok}
use Rattle.std.specs.List.{AllByRecursion, concat}
use Rattle.wrp_base.specs.declared.fault.TraceFault.{TraceFault}
use Rattle.wrp_io.specs.declared.link.LinkCall.{LinkCall}
use Rattle.wrp_records.specs.ByLines.{of_lines}
use Rattle.wrp_records.specs.declared.status.Status.{Status}
use Rattle.wrp_records.specs.declared.status.Status.TheVariants.{Done, BadTrace, Broken, ReadFault, TooLarge, OutOfMemory}
use Rattle.wrp_records.specs.Lines.{HasNoFeed, IsWhole, content_of, lines_of}
use Rattle.wrp_records.specs.Refusals.{bad_trace_line}
use Rattle.wrp_records.specs.Stream.{large_line}
use Rattle.wrp_plain.specs.declared.event.PlainBroken.{PlainBroken}
use Rattle.wrp_plain.specs.declared.settings.PlainReport.{PlainReport}
use Rattle.wrp_plain.specs.declared.settings.PlainStart.{PlainStart}
use Rattle.wrp_plain.specs.LineCourse.{plain_meaning}
use Rattle.wrp_plain.specs.LineReading.{start_read}
use Rattle.wrp_plain.specs.LineText.{broken_line, report_line, step_text}
use Rattle.wrp_plain.specs.Steered.{IsStepAgainst}
use Rattle.wrp_plain.specs.World.{IsWithinBound}

-- a report that is printed at a tick count, with the true offset; and by how much the step line that follows moves the
-- clock: 0 if no step line follows
pub record Said : Type 0 where
  pub tick : ℕ
  pub report : PlainReport
  pub off : ℤ
  pub by : ℤ

-- the lines of these reports, the oldest first
abbrev pub said_text : List Said → List ℕ
said_text [] = []
said_text (said ∷ later) = (report_line said.tick said.report said.off ++ step_text said.tick said.by) ++ said_text later

-- an estimate, moved with each printed step, is within a bound of each true offset that is printed up to the next
-- tick, including the true offset of the tick's own report
abbrev pub StaysWithin : (tick : ℕ) → (est bound : ℤ) → List Said → Type 0
StaysWithin tick est bound [] = Unit {0}
StaysWithin tick est bound (next ∷ later) =
    (pos (unsigned_abs (est -ℤ next.off)) ≤ℤ bound) × (next.tick ≡ tick → StaysWithin tick (est +ℤ next.by) bound later)

-- a printed report, and those after it: the true offset is within its bound; the step line is the command against its
-- estimate, and if it takes the whole estimate back, the true offset with that step is at most the bound; and the
-- report holds until the next tick
pub record IsSaidTruly (step : ℤ) (said : Said) (later : List Said) : Type 0 where
  pub within : IsWithinBound said.off said.report
  pub steps : (said.by ≡ pos 0) ⊎ IsStepAgainst step said.report.est said.by
  pub left : said.by ≡ neg_ℤ said.report.est → pos (unsigned_abs (said.off +ℤ said.by)) ≤ℤ said.report.bound
  pub stays : StaysWithin said.tick (said.report.est +ℤ said.by) said.report.bound later

abbrev pub AreSaidTruly : (step : ℤ) → List Said → Type 0
AreSaidTruly step [] = Unit {0}
AreSaidTruly step (said ∷ later) = IsSaidTruly step said later × AreSaidTruly step later

-- `0 plain 600 101 true 500`, `0 step -600`, and at the next tick `1 plain 0 200 true OFF`
abbrev pub worked_said : ℤ → List Said
worked_said off =
    record { tick = 0; report = record { est = pos 600; bound = pos 101 }; off = pos 500; by = neg_ℤ (pos 600) } ∷
    record { tick = 1; report = record { est = pos 0; bound = pos 200 }; off = off; by = pos 0 } ∷ []

-- OFF may then be 101 from 600 - 600, and no more
pub record WorkedSaid : Type 0 where
  pub text : said_text (worked_said (neg_ℤ (pos 101)))
      ≡ codes "0 plain 600 101 true 500" ++ 10 ∷ (codes "0 step -600" ++ 10 ∷ (codes "1 plain 0 200 true -101" ++ 10 ∷ []))
  pub within : AreSaidTruly (pos 1000000) (worked_said (neg_ℤ (pos 101)))
  pub beyond : AreSaidTruly (pos 1000000) (worked_said (neg_ℤ (pos 102))) → ⊥

-- what some records write: the lines of such reports, where the greatest step is the one that the first record gives
abbrev pub WritesTruly : List (List ℕ) → List ℕ → Type 0
WritesTruly [] text = text ≡ []
WritesTruly (first ∷ lines) text =
    (start : PlainStart) × (said : List Said) × (start_read first ≡ Ok start) × (text ≡ said_text said)
    × AreSaidTruly start.set.step said

-- ---- the output of an input

-- the last line of an answer with this status names the record of this number
abbrev pub Names : Status → ℕ → List ℕ → Type 0
Names BadTrace number last = (fault : TraceFault) × (last ≡ bad_trace_line number fault)
Names Broken number last = (broken : PlainBroken) × (last ≡ broken_line number broken)
Names TooLarge number last = last ≡ large_line number
Names status number last = ⊥

-- the first lines of an input write so, and a last line names the next record
pub record WritesFirst (status : Status) (input octets : List ℕ) : Type 0 where
  pub front : List (List ℕ)
  pub behind : List (List ℕ)
  pub written : List ℕ
  pub last : List ℕ
  pub divided : lines_of input ≡ front ++ behind
  pub is : octets ≡ written ++ last
  pub names : Names status (length front + 1) last
  pub writes : WritesTruly (map content_of front) written

-- an answer: if it is Done, all lines of the input write so
abbrev pub WritesBy : Status → (input octets : List ℕ) → Type 0
WritesBy Done input octets = WritesTruly (map content_of (lines_of input)) octets
WritesBy status input octets = WritesFirst status input octets

-- an answer that broke off: what the first lines of the input write
pub record WritesFront (input octets : List ℕ) : Type 0 where
  pub front : List (List ℕ)
  pub behind : List (List ℕ)
  pub divided : lines_of input ≡ front ++ behind
  pub writes : WritesTruly (map content_of front) octets

-- an answer if the source failed after these octets: what their whole lines write
pub record WritesWhole (taken octets : List ℕ) : Type 0 where
  pub lines : List (List ℕ)
  pub cut : List ℕ
  pub all : taken ≡ concat lines ++ cut
  pub whole : AllByRecursion IsWhole lines
  pub rest : HasNoFeed cut
  pub writes : WritesTruly (map content_of lines) octets

-- so it is for each status; if a write failed the last line may be cut, and nothing is claimed
abbrev pub WritesSo : (input : List ℕ) → Status → (octets : List ℕ) → Type 0
WritesSo input Done octets = WritesBy Done input octets
WritesSo input BadTrace octets = WritesBy BadTrace input octets
WritesSo input Broken octets = WritesBy Broken input octets
WritesSo input TooLarge octets = WritesBy TooLarge input octets
WritesSo input ReadFault octets = (taken : List ℕ) × (left : List ℕ) × (input ≡ taken ++ left) × WritesWhole taken octets
WritesSo input OutOfMemory octets = WritesFront input octets
WritesSo input status octets = Unit {0}

-- so it is whatever the input is and wherever its answer ends, also if nothing was written
pub record OutputHoldsUntilTick : Type 0 where
  pub answers : (input : List ℕ) (calls : List LinkCall) (status : Status) (octets : List ℕ) →
      (of_lines plain_meaning).answers input calls status octets → WritesBy status input octets
  pub first : (input : List ℕ) (calls : List LinkCall) (octets : List ℕ) → (of_lines plain_meaning).first input calls octets →
      WritesFront input octets
  pub cut : (taken octets : List ℕ) → (of_lines plain_meaning).cut taken octets → WritesWhole taken octets
  pub none : (input : List ℕ) → WritesFront input []
  pub worked : WorkedSaid
