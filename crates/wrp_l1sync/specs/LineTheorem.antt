-- What the text of `l1sync` shows of its ends: the state of each, which message carries the `up` of an end, and what both ends
-- then require (this project's profile).
use Rattle.std.specs.Prelude.{◌≡◌, ℕ, ◌==◌, if◌then◌else◌, Option, None, unwrap_or, List, [], ◌∷◌, ◌++◌}
use Rattle.std.specs.List.{find, slice_split}
use Rattle.std.specs.Option.{option_or}
use Rattle.wrp_l1sync.specs.declared.event.L1Event.{L1Event}
use Rattle.wrp_l1sync.specs.declared.event.Limits.{Limits}
use Rattle.wrp_l1sync.specs.declared.event.Side.{Side}
use Rattle.wrp_l1sync.specs.declared.event.Side.TheVariants.{A, B}
use Rattle.wrp_l1sync.specs.declared.interface.L1State.{L1State}
use Rattle.wrp_l1sync.specs.declared.interface.L1State.TheVariants.{Disabled, Idle, LinkAlive, ConfigMatch, Up}
use Rattle.wrp_l1sync.specs.Agreement.{AreUpBy, IsUpBy}
use Rattle.wrp_l1sync.specs.Inputs.{state_of}
use Rattle.wrp_l1sync.specs.LineKinds.{same_word}
use Rattle.wrp_l1sync.specs.LineRecords.{Say, Accepts}
use Rattle.wrp_l1sync.specs.LineText.{end_word, send_line, state_word, text_of}
use Rattle.wrp_l1sync.specs.Pair.{handed, history, inputs_of, other}

-- the lines of a text, which LF (octet 10) keeps apart
abbrev pub lines_in : List ℕ → List (List ℕ)
lines_in text = slice_split (λ octet. octet == 10) text

-- the words of a line, which spaces (octet 32) keep apart
abbrev pub words_in : List ℕ → List (List ℕ)
words_in line = slice_split (λ octet. octet == 32) line

-- all states
abbrev pub all_states : List L1State
all_states = Disabled ∷ Idle ∷ LinkAlive ∷ ConfigMatch ∷ Up ∷ []

-- the state of a word
abbrev pub state_named : List ℕ → Option L1State
state_named word = find (λ state. same_word (state_word state) word) all_states

-- the state that the words END TICK STATE give for an end; no other words give one
abbrev pub told_by : Side → List (List ℕ) → Option L1State
told_by side (word ∷ tick ∷ state ∷ []) =
    if same_word (end_word side) word then state_named state else None
told_by side _ = None

-- the last state that some lines give for an end
abbrev pub last_told : Side → List (List ℕ) → Option L1State
last_told side [] = None
last_told side (line ∷ later) = option_or (last_told side later) (told_by side (words_in line))

-- the state that a text shows for an end: the last that it gives, and disabled if it gives none
abbrev pub shown : Side → List ℕ → L1State
shown side text = unwrap_or (last_told side (lines_in text)) Disabled

-- a text shows an end up by a message: it has the line with which the peer sent it, after what the events before that tick write
pub record ShowsUp (limits : Limits) (events : List L1Event) (text : List ℕ) (side : Side) : Type 0 where
  pub by : IsUpBy limits events side
  pub tick : ℕ
  pub back : List ℕ
  pub printed : text ≡ text_of limits by.sent.older ++ (send_line (other side) tick by.k by.message.msg ++ back)

-- a text shows how an end is after these events, newest first: in the state that looking back over what it was handed
-- finds; and if that is `up`, by a message that its peer sent and that it was handed since it was enabled
pub record Shows (limits : Limits) (events : List L1Event) (text : List ℕ) (side : Side) : Type 0 where
  pub state : shown side text ≡ state_of limits.timeout (inputs_of (handed side (history limits.interval events)))
  pub up : shown side text ≡ Up → ShowsUp limits events text side

-- it shows so for both ends after the events that some lines say; and if both are `up`, when they agree
abbrev pub ShowsBoth : List (List ℕ) → List ℕ → Type 0
ShowsBoth lines text =
    (limits : Limits) × (events : List L1Event) × Say lines limits events
    × ((side : Side) → Shows limits events text side)
    × (shown A text ≡ Up → shown B text ≡ Up → AreUpBy limits events)

-- after each of some records: what the first of them write comes first, and shows so for both ends
abbrev pub ShowsAfterEach : List (List ℕ) → List ℕ → Type 0
ShowsAfterEach lines text =
    (first : List ℕ) (later behind : List (List ℕ)) → lines ≡ first ∷ (later ++ behind) →
    (written : List ℕ) × (more : List ℕ) × (text ≡ written ++ more)
    × Accepts (first ∷ later) written × ShowsBoth (first ∷ later) written

-- lines that are records do
abbrev pub TextShowsThePair : Type 0
TextShowsThePair = (lines : List (List ℕ)) (text : List ℕ) → Accepts lines text → ShowsAfterEach lines text
