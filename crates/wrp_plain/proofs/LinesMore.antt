-- What a machine of the lines represents with one more line.
use Rattle.std.proofs.Common.{◌≡◌, ◌∙◌, sym, ap, ap₂, subst, length, ◌+◌, ℕ, ℤ, Result, Ok, Err, IfOk, Some, None, Option, List, [], ◌∷◌, ◌++◌}
use Rattle.wrp_base.specs.declared.fault.TraceFault.{TraceFault}
use Rattle.wrp_records.specs.declared.machine.Refusal.{Refusal}
use Rattle.wrp_records.specs.declared.machine.Refusal.TheVariants as refusals
use Rattle.wrp_records.specs.declared.machine.Taken.{Taken}
use Rattle.wrp_records.specs.declared.machine.Taken.TheVariants.{Accepted, Refused}
use Rattle.wrp_records.specs.Refusals.{RefusesLine}
use Rattle.wrp_records.proofs.LineParts.{refused_line}
use Rattle.wrp_plain.specs.declared.event.PlainEvent.{PlainEvent}
use Rattle.wrp_plain.specs.declared.lines.course.PlainRun.{PlainRun}
use Rattle.wrp_plain.specs.declared.settings.PlainSet.{PlainSet}
use Rattle.wrp_plain.specs.declared.settings.PlainStart.{PlainStart}
use Rattle.wrp_plain.specs.LineCourse.{IsPlainRun, PlainAccepts, PlainRefuses}
use Rattle.wrp_plain.specs.LineReading.{event_read, start_read}
use Rattle.wrp_plain.specs.LineText.{broken_line, event_text, events_text}
use Rattle.wrp_plain.specs.LinesHeld.{Happens, HasRun, HasTakenBy, HasTakenSo}
use Rattle.wrp_plain.proofs.LinesOnce.{course_more, one_course}

-- the text of the events before is the text of the course
earlier_text : (first : List ℕ) (lines : List (List ℕ)) (start : PlainStart) (events : List PlainEvent) (before : List ℕ) → IsPlainRun first lines start events → PlainAccepts (first ∷ lines) before →
    before ≡ events_text start.set start.off events
earlier_text first lines start events before course accepted =
    let one = one_course first lines accepted.0 start accepted.1 events accepted.2 course in
    accepted.3 ∙ ap₂ (λ (s : PlainStart) (es : List PlainEvent). events_text s.set s.off es) one.0 one.1

-- a course goes on with an event that a line says
goes_on : (old new : PlainRun) (first : List ℕ) (lines : List (List ℕ)) (line before text : List ℕ) (event : PlainEvent) (number : ℕ) → Ok event ≡ event_read line →
    ((set : PlainSet) (off : ℤ) (events : List PlainEvent) → HasRun set off old events → Happens set off events event number new text Accepted) →
    HasTakenSo old first lines → PlainAccepts (first ∷ lines) before →
    HasTakenSo new first (lines ++ line ∷ []) × PlainAccepts (first ∷ lines ++ line ∷ []) (before ++ text)
goes_on old new first lines line before text event number reads happens taken accepted =
    let start : PlainStart = taken.start in
    let events : List PlainEvent = taken.events in
    let now = happens start.set start.off events taken.run in
    let more : IsPlainRun first (lines ++ line ∷ []) start (event ∷ events) = course_more first lines start events line event taken.is (sym reads) now.0.had.accepted in
    let texts : before ++ text ≡ events_text start.set start.off events ++ event_text start.set start.off events event =
    ap₂ (λ (a b : List ℕ). a ++ b) (earlier_text first lines start events before taken.is accepted) now.1 in
    (record { start = start; events = event ∷ events; is = more; run = now.0 }, (start, event ∷ events, more, texts))

-- an answer that accepts the line goes on so
abbrev pub GoesOn : {E : Type 0} → PlainRun → PlainRun → (line text : List ℕ) → Result Taken E → Type 0
GoesOn old new line text result =
    (first : List ℕ) (lines : List (List ℕ)) (before : List ℕ) → IfOk result (λ taken. taken ≡ Accepted →
    HasTakenSo old first lines → PlainAccepts (first ∷ lines) before →
    HasTakenSo new first (lines ++ line ∷ []) × PlainAccepts (first ∷ lines ++ line ∷ []) (before ++ text))

pub goes_on_by : {E : Type 0} (old new : PlainRun) (line text : List ℕ) (event : PlainEvent) (number : ℕ) (result : Result Taken E) → Ok event ≡ event_read line →
    ((set : PlainSet) (off : ℤ) (events : List PlainEvent) → HasRun set off old events → IfOk result (Happens set off events event number new text)) →
    GoesOn old new line text result
goes_on_by old new line text event number (Err e) reads happens first lines before = tt
goes_on_by old new line text event number (Ok answer) reads happens first lines before = λ is has accepted.
    goes_on old new first lines line before text event number reads
    (λ set off events run. subst (Happens set off events event number new text) is (happens set off events run)) has accepted

-- so it is for the machine
pub takes_more : {E : Type 0} (old : Option PlainRun) (course new : PlainRun) (line text : List ℕ) (result : Result Taken E) → old ≡ Some course → GoesOn course new line text result →
    (lines : List (List ℕ)) (before : List ℕ) → IfOk result (λ taken. taken ≡ Accepted → HasTakenBy old lines → PlainAccepts lines before →
    HasTakenBy (Some new) (lines ++ line ∷ []) × PlainAccepts (lines ++ line ∷ []) (before ++ text))
takes_more old course new line text (Err e) is more lines before = tt
takes_more old course new line text (Ok answer) is more [] before = λ so has accepted. absurd (subst (λ (o : Option PlainRun). HasTakenBy o []) is has)
takes_more old course new line text (Ok answer) is more (first ∷ lines) before = λ so has accepted.
    more first lines before so (subst (λ (o : Option PlainRun). HasTakenBy o (first ∷ lines)) is has) accepted

-- A refusal

-- the first line is refused for its fault
pub refuses_first : (line : List ℕ) (fault : TraceFault) (number : ℕ) (old new : List ℕ) (answer : Taken) (refusal : Refusal) → RefusesLine fault number old new answer → old ≡ [] → Err fault ≡ start_read line →
    answer ≡ Refused refusal → number ≡ 1 → PlainRefuses [] line refusal new
refuses_first line fault number old new answer refusal refuses none reads is counts =
    let told = refused_line fault number 1 old new answer refusal refuses is none counts in
    subst (λ (r : Refusal). PlainRefuses [] line r new) told.0 (fault, sym reads, told.1)

-- so is a later one
pub refuses_next : (first : List ℕ) (lines : List (List ℕ)) (line : List ℕ) (fault : TraceFault) (number : ℕ) (old new : List ℕ) (answer : Taken) (refusal : Refusal) → RefusesLine fault number old new answer → old ≡ [] →
    Err fault ≡ event_read line → answer ≡ Refused refusal → number ≡ length (first ∷ lines) + 1 → PlainRefuses (first ∷ lines) line refusal new
refuses_next first lines line fault number old new answer refusal refuses none reads is counts =
    let told = refused_line fault number (length (first ∷ lines) + 1) old new answer refusal refuses is none counts in
    subst (λ (r : Refusal). PlainRefuses (first ∷ lines) line r new) told.0 (fault, sym reads, told.1)

-- or its event breaks a premise
breaks_by : (new : PlainRun) (first : List ℕ) (lines : List (List ℕ)) (line text : List ℕ) (event : PlainEvent) (number : ℕ) (start : PlainStart) (events : List PlainEvent) (refusal : Refusal) →
    IsPlainRun first lines start events → event_read line ≡ Ok event → Happens start.set start.off events event number new text (Refused refusal) → number ≡ length (first ∷ lines) + 1 → PlainRefuses (first ∷ lines) line refusal text
breaks_by new first lines line text event number start events refusals.BadTrace course reads happens counts = absurd happens
breaks_by new first lines line text event number start events refusals.Broken course reads happens counts = record {
  start = start;
  events = events;
  course = course;
  event = event;
  reads = reads;
  broken = happens.0;
  told = happens.1;
  is = happens.2 ∙ ap (λ (n : ℕ). broken_line n happens.0) counts;
}

pub breaks_so : {E : Type 0} (old new : PlainRun) (line text : List ℕ) (event : PlainEvent) (number : ℕ) (result : Result Taken E) → Ok event ≡ event_read line →
    ((set : PlainSet) (off : ℤ) (events : List PlainEvent) → HasRun set off old events → IfOk result (Happens set off events event number new text)) →
    (first : List ℕ) (lines : List (List ℕ)) (refusal : Refusal) → IfOk result (λ taken. taken ≡ Refused refusal → HasTakenSo old first lines → number ≡ length (first ∷ lines) + 1 →
    PlainRefuses (first ∷ lines) line refusal text)
breaks_so old new line text event number (Err e) reads happens first lines refusal = tt
breaks_so old new line text event number (Ok answer) reads happens first lines refusal = λ is has counts.
    breaks_by new first lines line text event number has.start has.events refusal has.is (sym reads)
    (subst (Happens has.start.set has.start.off has.events event number new text) is (happens has.start.set has.start.off has.events has.run)) counts

-- so it is for the machine
pub refuses_more : {E : Type 0} (old : Option PlainRun) (course : PlainRun) (line text : List ℕ) (number : ℕ) (result : Result Taken E) → old ≡ Some course →
    ((first : List ℕ) (lines : List (List ℕ)) (refusal : Refusal) → IfOk result (λ taken. taken ≡ Refused refusal → HasTakenSo course first lines → number ≡ length (first ∷ lines) + 1 →
    PlainRefuses (first ∷ lines) line refusal text)) →
    (lines : List (List ℕ)) (refusal : Refusal) → IfOk result (λ taken. taken ≡ Refused refusal → HasTakenBy old lines → number ≡ length lines + 1 → PlainRefuses lines line refusal text)
refuses_more old course line text number (Err e) is more lines refusal = tt
refuses_more old course line text number (Ok answer) is more [] refusal = λ so has counts. absurd (subst (λ (o : Option PlainRun). HasTakenBy o []) is has)
refuses_more old course line text number (Ok answer) is more (first ∷ lines) refusal = λ so has counts.
    more first lines refusal so (subst (λ (o : Option PlainRun). HasTakenBy o (first ∷ lines)) is has) counts

pub begins_wrong : {E : Type 0} (old : Option PlainRun) (line text : List ℕ) (number : ℕ) (result : Result Taken E) → old ≡ None →
    ((refusal : Refusal) → IfOk result (λ taken. taken ≡ Refused refusal → number ≡ 1 → PlainRefuses [] line refusal text)) →
    (lines : List (List ℕ)) (refusal : Refusal) → IfOk result (λ taken. taken ≡ Refused refusal → HasTakenBy old lines → number ≡ length lines + 1 → PlainRefuses lines line refusal text)
begins_wrong old line text number (Err e) is begins lines refusal = tt
begins_wrong old line text number (Ok answer) is begins [] refusal = λ so has counts. begins refusal so counts
begins_wrong old line text number (Ok answer) is begins (first ∷ lines) refusal = λ so has counts. absurd (subst (λ (o : Option PlainRun). HasTakenBy o (first ∷ lines)) is has)
