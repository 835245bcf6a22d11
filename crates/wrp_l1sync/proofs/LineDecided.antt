-- After records each line is a record too, or is refused.
use Rattle.std.proofs.Common.{◌≡◌, ◌⊎◌, inl, inr, refl, ℕ, ◌+◌, Option, None, Some, Result, Ok, Err, List, [], ◌∷◌, ◌++◌, length}
use Rattle.wrp_base.specs.declared.fault.TraceFault.{TraceFault}
use Rattle.wrp_l1sync.specs.declared.event.Breach.{Breach}
use Rattle.wrp_l1sync.specs.declared.event.L1Event.{L1Event}
use Rattle.wrp_l1sync.specs.declared.event.Limits.{Limits}
use Rattle.wrp_l1sync.specs.LineReading.{event_read, limits_read}
use Rattle.wrp_l1sync.specs.LineRecords.{Accepts, Happen, Refuses, Say}
use Rattle.wrp_l1sync.specs.LineText.{breach_line, event_text}
use Rattle.wrp_l1sync.specs.Pair.{breach_of, history}
use Rattle.wrp_l1sync.proofs.LineLists.{say_more}
use Rattle.wrp_l1sync.proofs.LineTakingLaws.{happen_more}
use Rattle.wrp_records.specs.declared.machine.Refusal.{Refusal}
use Rattle.wrp_records.specs.declared.machine.Refusal.TheVariants as refusals
use Rattle.wrp_records.specs.Refusals.{bad_trace_line}

-- after lines that wrote this a line is a record that writes more, or it is refused
abbrev pub IsDecided : List (List ℕ) → (text line : List ℕ) → Type 0
IsDecided lines text line =
    ((more : List ℕ) × Accepts (lines ++ line ∷ []) (text ++ more))
    ⊎ ((refusal : Refusal) × (last : List ℕ) × Refuses lines line refusal last)

first_decided : (text line : List ℕ) (read : Result Limits TraceFault) → text ≡ [] → limits_read line ≡ read → IsDecided [] text line
first_decided text line (Ok limits) none is =
    let wrote : text ++ [] ≡ [] = rw none refl in
    inl ([], (limits, [], (is, refl), record { accepted = tt; wrote = wrote }))
first_decided text line (Err fault) none is = inr (refusals.BadTrace, bad_trace_line 1 fault, (fault, is, refl))

event_decided : (first : List ℕ) (later : List (List ℕ)) (text line : List ℕ) (limits : Limits) (events : List L1Event) (event : L1Event) (told : Option Breach) →
    Say (first ∷ later) limits events → Happen limits events text → event_read line ≡ Ok event →
    breach_of limits (history limits.interval events) event ≡ told → IsDecided (first ∷ later) text line
event_decided first later text line limits events event None say happened says kept =
    inl (
      event_text limits events event,
      (
        limits,
        event ∷ events,
        say_more first later limits events line event say says,
        happen_more limits events event text (event_text limits events event) happened (kept, happened.accepted) refl,
      ),
    )
event_decided first later text line limits events event (Some breach) say happened says broken =
    inr (
      refusals.Broken,
      breach_line (length (first ∷ later) + 1) breach,
      (
        limits,
        events,
        say,
        record { event = event; breach = breach; says = says; broken = broken; is = refl },
      ),
    )

later_decided : (first : List ℕ) (later : List (List ℕ)) (text line : List ℕ) (read : Result L1Event TraceFault) → Accepts (first ∷ later) text →
    event_read line ≡ read → IsDecided (first ∷ later) text line
later_decided first later text line (Ok event) accepted is =
    event_decided first later text line accepted.0 accepted.1 event
    (breach_of accepted.0 (history accepted.0.interval accepted.1) event) accepted.2 accepted.3 is refl
later_decided first later text line (Err fault) accepted is =
    inr (refusals.BadTrace, bad_trace_line (length (first ∷ later) + 1) fault, (fault, is, refl))

-- after records each line is decided
pub decided : (lines : List (List ℕ)) (text line : List ℕ) → Accepts lines text → IsDecided lines text line
decided [] text line accepted = first_decided text line (limits_read line) accepted refl
decided (first ∷ later) text line accepted = later_decided first later text line (event_read line) accepted refl
