-- The pair of ends that represents the record lines that it has taken (this project's profile).
use Rattle.std.specs.Prelude.{◌≡◌, ℕ, ◌+◌, Option, None, Some, Ok, List, [], ◌∷◌}
use Rattle.wrp_l1sync.specs.declared.event.L1Event.{L1Event}
use Rattle.wrp_l1sync.specs.declared.lines.L1Lines.{L1Lines}
use Rattle.wrp_records.specs.declared.machine.Refusal.TheVariants as refusal
use Rattle.wrp_records.specs.declared.machine.Taken.{Taken}
use Rattle.wrp_records.specs.declared.machine.Taken.TheVariants.{Accepted, Refused}
use Rattle.wrp_l1sync.specs.LineReading.{limits_read, event_read}
use Rattle.wrp_l1sync.specs.LineRecords.{Say, IsBad, Breaks}
use Rattle.wrp_l1sync.specs.LineText.{event_text}
use Rattle.wrp_l1sync.specs.Pair.{PairAt, StandsFor}

-- how many records a pair has taken: the first, and its events
abbrev pub count_of : Option PairAt → ℕ
count_of None = 0
count_of (Some pair) = pair.count + 1

-- a pair was made by the first of these lines, and stands for the events that the later ones say
pub record IsPairOf (pair : PairAt) (lines : List (List ℕ)) (events : List L1Event) : Type 0 where
  pub say : Say lines pair.limits events
  pub stands : StandsFor pair events

-- before the first line there is no pair
abbrev pub HasTaken : L1Lines → List (List ℕ) → Type 0
HasTaken held [] = held.pair ≡ None
HasTaken held (first ∷ later) =
    (pair : PairAt) × (events : List L1Event) × (held.pair ≡ Some pair) × IsPairOf pair (first ∷ later) events

-- a pair took an event that a line says, and this is written for it
pub record TookEvent (old new : PairAt) (before : List L1Event) (line text : List ℕ) : Type 0 where
  pub event : L1Event
  pub says : event_read line ≡ Ok event
  pub stands : StandsFor new (event ∷ before)
  pub limits : new.limits ≡ old.limits
  pub wrote : text ≡ event_text old.limits before event

-- what the record of a number makes of a pair that stands for these events: it is taken, or refused for
-- what it says
abbrev pub GoesOn : (old new : PairAt) → List L1Event → ℕ → (line text : List ℕ) → Taken → Type 0
GoesOn old new events number line text Accepted = TookEvent old new events line text
GoesOn old new events number line text (Refused refusal.BadTrace) = IsBad event_read number line text
GoesOn old new events number line text (Refused refusal.Broken) = Breaks old.limits events number line text

-- what the first record makes: a pair that stands for no events, or the record is refused
abbrev pub BeginsWith : Option PairAt → ℕ → (line text : List ℕ) → Taken → Type 0
BeginsWith new number line text Accepted =
    (pair : PairAt) × (new ≡ Some pair) × (limits_read line ≡ Ok pair.limits) × StandsFor pair [] × (text ≡ [])
BeginsWith new number line text (Refused refusal.BadTrace) = IsBad limits_read number line text
BeginsWith new number line text (Refused refusal.Broken) = ⊥
