-- After records each line is a record or is refused.
use Rattle.std.proofs.Common.{◌≡◌, ◌⊎◌, inl, inr, refl, ap, ℕ, ◌+◌, List, [], ◌∷◌, ◌++◌, length, Option, None, Some, Result, Ok, Err}
use Rattle.wrp_base.specs.declared.fault.TraceFault.{TraceFault}
use Rattle.wrp_records.specs.declared.machine.Refusal.{Refusal}
use Rattle.wrp_records.specs.declared.machine.Refusal.TheVariants as refusals
use Rattle.wrp_records.specs.Refusals.{bad_trace_line}
use Rattle.wrp_plain.specs.declared.event.PlainEvent.{PlainEvent}
use Rattle.wrp_plain.specs.declared.event.PlainBroken.{PlainBroken}
use Rattle.wrp_plain.specs.declared.settings.PlainStart.{PlainStart}
use Rattle.wrp_plain.specs.LineCourse.{IsPlainRun, PlainAccepts, PlainRefuses}
use Rattle.wrp_plain.specs.LineReading.{event_read, start_read}
use Rattle.wrp_plain.specs.LineText.{broken_line, event_text, events_text}
use Rattle.wrp_plain.specs.Premises.{broken_after}
use Rattle.wrp_plain.proofs.EventFits.{event_fits}
use Rattle.wrp_plain.proofs.LinesOnce.{course_more}

-- one more line is a record, and writes this
abbrev Goes : List (List ℕ) → List ℕ → List ℕ → Type 0
Goes lines line before = (text : List ℕ) × PlainAccepts (lines ++ line ∷ []) (before ++ text)

-- it is refused
abbrev Stops : List (List ℕ) → List ℕ → Type 0
Stops lines line = (refusal : Refusal) × (last : List ℕ) × PlainRefuses lines line refusal last

start_decided : (line : List ℕ) (before : List ℕ) (read : Result PlainStart TraceFault) → before ≡ [] → start_read line ≡ read → Goes [] line before ⊎ Stops [] line
start_decided line before (Ok start) none e =
    inl ([], (start, [], record { starts = e; are = refl; kept = tt }, ap (λ (l : List ℕ). l ++ []) none))
start_decided line before (Err fault) none e = inr (refusals.BadTrace, bad_trace_line 1 fault, (fault, e, refl))

broken_decided : (first : List ℕ) (lines : List (List ℕ)) (line before : List ℕ) (start : PlainStart) (events : List PlainEvent) (event : PlainEvent) (broken : Option PlainBroken) →
    before ≡ events_text start.set start.off events → IsPlainRun first lines start events → event_read line ≡ Ok event → broken_after start.set start.off events event ≡ broken →
    Goes (first ∷ lines) line before ⊎ Stops (first ∷ lines) line
broken_decided first lines line before start events event None text course reads kept =
    inl (
      event_text start.set start.off events event,
      (
        start,
        event ∷ events,
        course_more first lines start events line event course reads (event_fits line event reads, kept, course.kept),
        ap (λ (l : List ℕ). l ++ event_text start.set start.off events event) text,
      ),
    )
broken_decided first lines line before start events event (Some broken) text course reads told =
    inr (
      refusals.Broken,
      broken_line (length (first ∷ lines) + 1) broken,
      record { start = start; events = events; course = course; event = event; reads = reads; broken = broken; told = told; is = refl },
    )

event_decided : (first : List ℕ) (lines : List (List ℕ)) (line before : List ℕ) (read : Result PlainEvent TraceFault) → PlainAccepts (first ∷ lines) before → event_read line ≡ read → Goes (first ∷ lines) line before ⊎ Stops (first ∷ lines) line
event_decided first lines line before (Ok event) accepted reads =
    broken_decided first lines line before accepted.0 accepted.1 event (broken_after accepted.0.set accepted.0.off accepted.1 event) accepted.3 accepted.2 reads refl
event_decided first lines line before (Err fault) accepted reads = inr (refusals.BadTrace, bad_trace_line (length (first ∷ lines) + 1) fault, (fault, reads, refl))

-- so it is whatever the lines before it wrote
pub decided : (lines : List (List ℕ)) (line before : List ℕ) → PlainAccepts lines before →
    ((text : List ℕ) × PlainAccepts (lines ++ line ∷ []) (before ++ text)) ⊎ ((refusal : Refusal) × (last : List ℕ) × PlainRefuses lines line refusal last)
decided [] line before accepted = start_decided line before (start_read line) accepted refl
decided (first ∷ lines) line before accepted = event_decided first lines line before (event_read line) accepted refl
