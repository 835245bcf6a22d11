-- The kinds of the lines of `l1sync`, by their first field: the first line is a `param`, and each later one
-- an event (this project's profile).
use Rattle.std.specs.Prelude.{ℕ, nat_eq, Bool, Option, List, [], ◌∷◌, codes}
use Rattle.std.specs.Cmp.Lexicographic.{pointwise}
use Rattle.std.specs.List.{find}
use Rattle.wrp_l1sync.specs.declared.lines.kinds.EventKind.{EventKind}
use Rattle.wrp_l1sync.specs.declared.lines.kinds.EventKind.TheVariants.{Pass, Tick, Enable, Disable, Own, Deliver}

-- the two texts have the same octets
abbrev pub same_word : List ℕ → List ℕ → Bool
same_word a b = pointwise nat_eq a b

-- the word that an event's line begins with
abbrev pub word_of : EventKind → List ℕ
word_of Pass = codes "pass"
word_of Tick = codes "tick"
word_of Enable = codes "enable"
word_of Disable = codes "disable"
word_of Own = codes "own"
word_of Deliver = codes "deliver"

-- how many fields such a line has, its word among them
abbrev pub field_count : EventKind → ℕ
field_count Pass = 2
field_count Tick = 2
field_count Enable = 2
field_count Disable = 2
field_count Own = 4
field_count Deliver = 3

-- all kinds of events
abbrev pub all_kinds : List EventKind
all_kinds = Pass ∷ Tick ∷ Enable ∷ Disable ∷ Own ∷ Deliver ∷ []

-- the kind of an event, by the first field of its line
abbrev pub kind_of : List ℕ → Option EventKind
kind_of word = find (λ kind. same_word (word_of kind) word) all_kinds
