-- The kinds of input lines: the word that each begins with, and its number of fields (this project's
-- profile).
use Rattle.std.specs.Prelude.{ℕ, ◌&&◌, not, Bool, true, Option, List, [], ◌∷◌, codes}
use Rattle.std.specs.List.{find}
use Rattle.wrp_caldb.specs.Name.{same_name}
use Rattle.wrp_trace.specs.declared.kinds.InputKind.{InputKind}
use Rattle.wrp_trace.specs.declared.kinds.InputKind.TheVariants.{Tick, Sample, Frame, Sent, Up, Down, Reset}
use Rattle.wrp_trace.specs.LineSetting.{LineSetting, is_grandmaster}

-- the word of a kind
abbrev pub word_of : InputKind → List ℕ
word_of Tick = codes "tick"
word_of Sample = codes "sample"
word_of Frame = codes "frame"
word_of Sent = codes "sent"
word_of Up = codes "up"
word_of Down = codes "down"
word_of Reset = codes "reset"

-- how many fields a line of a kind has, its word among them
abbrev pub field_count : InputKind → ℕ
field_count Tick = 1
field_count Sample = 4
field_count Frame = 7
field_count Sent = 6
field_count Up = 3
field_count Down = 2
field_count Reset = 1

-- all kinds
abbrev pub all_kinds : List InputKind
all_kinds = Tick ∷ Sample ∷ Frame ∷ Sent ∷ Up ∷ Down ∷ Reset ∷ []

-- whether a node has lines of a kind: no sample comes to the node that gives the time
abbrev pub has_kind : LineSetting → InputKind → Bool
has_kind site Sample = not (is_grandmaster site)
has_kind site kind = true

-- the kind of a line at a node, by its first field
abbrev pub kind_of : LineSetting → List ℕ → Option InputKind
kind_of site word = find (λ kind. same_name (word_of kind) word && has_kind site kind) all_kinds
