-- The kinds of event lines: the word that each begins with, and how many fields it may have (this
-- project's profile).
use Rattle.std.specs.Prelude.{ℕ, ◌==◌, ◌&&◌, nat_le, Bool, Option, List, [], ◌∷◌, codes}
use Rattle.std.specs.List.{find}
use Rattle.wrp_caldb.specs.Name.{same_name}
use Rattle.wrp_trace.specs.declared.events.kinds.EventKind.{EventKind}
use Rattle.wrp_trace.specs.declared.events.kinds.EventKind.TheVariants.{Pass, Tick, Sample, Depart, Arrive, Deliver, Noise, Down, Up, Cut, Join}

-- the word of a kind
abbrev pub word_of : EventKind → List ℕ
word_of Pass = codes "pass"
word_of Tick = codes "tick"
word_of Sample = codes "sample"
word_of Depart = codes "depart"
word_of Arrive = codes "arrive"
word_of Deliver = codes "deliver"
word_of Noise = codes "noise"
word_of Down = codes "down"
word_of Up = codes "up"
word_of Cut = codes "cut"
word_of Join = codes "join"

-- whether a line of a kind may have so many fields, its word among them
abbrev pub may_have : EventKind → ℕ → Bool
may_have Pass count = nat_le 2 count
may_have Tick count = count == 2
may_have Sample count = count == 4
may_have Depart count = count == 4
may_have Arrive count = count == 5
may_have Deliver count = count == 2
may_have Noise count = count == 7
may_have Down count = count == 2
may_have Up count = nat_le 3 count && nat_le count 21
may_have Cut count = count == 2
may_have Join count = count == 4

-- all kinds
abbrev pub all_kinds : List EventKind
all_kinds =
    Pass ∷ Tick ∷ Sample ∷ Depart ∷ Arrive ∷ Deliver ∷ Noise ∷ Down ∷ Up ∷ Cut ∷ Join ∷ []

-- the kind of a line, by its first field
abbrev pub kind_of : List ℕ → Option EventKind
kind_of word = find (λ kind. same_name (word_of kind) word) all_kinds
