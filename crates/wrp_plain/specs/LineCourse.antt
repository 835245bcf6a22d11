-- What the record lines of a plain servo mean: which are records, what they write, and which line is refused (this
-- project's profile). Nothing is written after the last record, and no records are refused as a whole.
use Rattle.std.specs.Prelude.{◌≡◌, ℕ, ◌+◌, Some, Ok, Err, List, [], ◌∷◌, length, map, reverse}
use Rattle.wrp_base.specs.declared.fault.TraceFault.{TraceFault}
use Rattle.wrp_records.specs.declared.machine.Refusal.{Refusal}
use Rattle.wrp_records.specs.declared.machine.Refusal.TheVariants.{BadTrace, Broken}
use Rattle.wrp_records.specs.LineMeaning.{LineMeaning, bars_none, meaning_by}
use Rattle.wrp_records.specs.Refusals.{bad_trace_line}
use Rattle.wrp_plain.specs.declared.event.PlainEvent.{PlainEvent}
use Rattle.wrp_plain.specs.declared.event.PlainBroken.{PlainBroken}
use Rattle.wrp_plain.specs.declared.settings.PlainStart.{PlainStart}
use Rattle.wrp_plain.specs.LineReading.{start_read, event_read}
use Rattle.wrp_plain.specs.LineText.{events_text, broken_line}
use Rattle.wrp_plain.specs.Premises.{Accepts, broken_after}

-- the lines say these events, which are listed newest first
abbrev pub AreEvents : List (List ℕ) → List PlainEvent → Type 0
AreEvents lines events = map event_read lines ≡ map (λ (event : PlainEvent). Ok event) (reverse events)

-- the first line says the settings and the true offset at the start; the later lines say these events, and each keeps
-- the premises after those before it
pub record IsPlainRun (first : List ℕ) (lines : List (List ℕ)) (start : PlainStart) (events : List PlainEvent) : Type 0 where
  pub starts : start_read first ≡ Ok start
  pub are : AreEvents lines events
  pub kept : Accepts start.set start.off events

-- the lines are records, and write this: no lines write nothing
abbrev pub PlainAccepts : List (List ℕ) → List ℕ → Type 0
PlainAccepts [] text = text ≡ []
PlainAccepts (first ∷ lines) text =
    (start : PlainStart) × (events : List PlainEvent) × IsPlainRun first lines start events ×
    (text ≡ events_text start.set start.off events)

-- after records a line says an event that breaks a premise: the first that it breaks is reported
pub record Breaks (first : List ℕ) (lines : List (List ℕ)) (line last : List ℕ) : Type 0 where
  pub start : PlainStart
  pub events : List PlainEvent
  pub course : IsPlainRun first lines start events
  pub event : PlainEvent
  pub reads : event_read line ≡ Ok event
  pub broken : PlainBroken
  pub told : broken_after start.set start.off events event ≡ Some broken
  pub is : last ≡ broken_line (length (first ∷ lines) + 1) broken

-- after some lines a line is refused, and this last line names it: the first line has other fields than the later ones
abbrev pub PlainRefuses : List (List ℕ) → List ℕ → Refusal → List ℕ → Type 0
PlainRefuses [] line BadTrace last =
    (fault : TraceFault) × (start_read line ≡ Err fault) × (last ≡ bad_trace_line 1 fault)
PlainRefuses (first ∷ lines) line BadTrace last =
    (fault : TraceFault) × (event_read line ≡ Err fault) ×
    (last ≡ bad_trace_line (length (first ∷ lines) + 1) fault)
PlainRefuses [] line Broken last = ⊥
PlainRefuses (first ∷ lines) line Broken last = Breaks first lines line last

-- nothing is written after the last record
abbrev pub PlainCloses : List (List ℕ) → List ℕ → Type 0
PlainCloses lines last = last ≡ []

-- what the record lines mean: no records are refused as a whole
abbrev pub plain_meaning : LineMeaning
plain_meaning = meaning_by PlainAccepts PlainRefuses PlainCloses bars_none
