-- What the record lines of `l1sync` mean: which are records, what they write, and which is refused (this
-- project's profile).
use Rattle.std.specs.Prelude.{◌≡◌, ℕ, ◌+◌, Some, Result, Ok, Err, List, [], ◌∷◌, length, map, reverse}
use Rattle.wrp_base.specs.declared.fault.TraceFault.{TraceFault}
use Rattle.wrp_l1sync.specs.declared.event.Breach.{Breach}
use Rattle.wrp_l1sync.specs.declared.event.L1Event.{L1Event}
use Rattle.wrp_l1sync.specs.declared.event.Limits.{Limits}
use Rattle.wrp_records.specs.declared.machine.Refusal.{Refusal}
use Rattle.wrp_records.specs.declared.machine.Refusal.TheVariants.{BadTrace, Broken}
use Rattle.wrp_l1sync.specs.LineReading.{limits_read, event_read}
use Rattle.wrp_l1sync.specs.LineText.{text_of, breach_line}
use Rattle.wrp_l1sync.specs.Pair.{AreAccepted, breach_of, history}
use Rattle.wrp_records.specs.LineMeaning.{LineMeaning, bars_none, meaning_by}
use Rattle.wrp_records.specs.Refusals.{bad_trace_line}

-- the first of some lines says the limits of a pair of ends, and each later one an event; the events are listed newest
-- first
abbrev pub Say : List (List ℕ) → Limits → List L1Event → Type 0
Say [] limits events = ⊥
Say (first ∷ later) limits events =
    (limits_read first ≡ Ok limits)
    × (map event_read later ≡ map (λ (event : L1Event). Ok event) (reverse events))

-- the events keep the premises, each in its turn, and this is what is written for them
pub record Happen (limits : Limits) (events : List L1Event) (text : List ℕ) : Type 0 where
  pub accepted : AreAccepted limits events
  pub wrote : text ≡ text_of limits events

-- the lines are records, and write this
abbrev pub Accepts : List (List ℕ) → List ℕ → Type 0
Accepts [] text = text ≡ []
Accepts (first ∷ later) text =
    (limits : Limits) × (events : List L1Event) × Say (first ∷ later) limits events × Happen limits events text

-- the record of this number says nothing, for this first fault
abbrev pub IsBad : {A : Type 0} → (List ℕ → Result A TraceFault) → ℕ → (line last : List ℕ) → Type 0
IsBad reading number line last =
    (fault : TraceFault) × (reading line ≡ Err fault) × (last ≡ bad_trace_line number fault)

-- the record of this number says an event that breaks a premise after the earlier ones
pub record Breaks (limits : Limits) (before : List L1Event) (number : ℕ) (line last : List ℕ) : Type 0 where
  pub event : L1Event
  pub breach : Breach
  pub says : event_read line ≡ Ok event
  pub broken : breach_of limits (history limits.interval before) event ≡ Some breach
  pub is : last ≡ breach_line number breach

-- after some lines a line is refused, and this last line names it: it says no limits if it is the first, and no event
-- if it is a later one, or one that breaks a premise
abbrev pub Refuses : List (List ℕ) → List ℕ → Refusal → List ℕ → Type 0
Refuses [] line BadTrace last = IsBad limits_read 1 line last
Refuses [] line Broken last = ⊥
Refuses (first ∷ later) line BadTrace last = IsBad event_read (length (first ∷ later) + 1) line last
Refuses (first ∷ later) line Broken last =
    (limits : Limits) × (events : List L1Event) × Say (first ∷ later) limits events
    × Breaks limits events (length (first ∷ later) + 1) line last

-- at the end nothing is written
abbrev pub Closes : List (List ℕ) → List ℕ → Type 0
Closes lines last = last ≡ []

-- what the record lines mean
abbrev pub meaning : LineMeaning
meaning = meaning_by Accepts Refuses Closes bars_none
