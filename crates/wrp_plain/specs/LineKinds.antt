-- The kinds of lines after the first: the word that each begins with, and its number of fields (this project's
-- profile).
use Rattle.std.specs.Prelude.{ℕ, Bool, Option, List, [], ◌∷◌, codes, nat_eq}
use Rattle.std.specs.Cmp.Lexicographic.{pointwise}
use Rattle.std.specs.List.{find}
use Rattle.wrp_plain.specs.declared.lines.kinds.LineKind.{LineKind}
use Rattle.wrp_plain.specs.declared.lines.kinds.LineKind.TheVariants.{Pass, Tick, Exch}

-- the two words have the same octets
abbrev pub same_word : List ℕ → List ℕ → Bool
same_word a b = pointwise nat_eq a b

-- the word of a kind
abbrev pub word_of : LineKind → List ℕ
word_of Pass = codes "pass"
word_of Tick = codes "tick"
word_of Exch = codes "exch"

-- how many fields a line of a kind has, its word among them
abbrev pub field_count : LineKind → ℕ
field_count Pass = 3
field_count Tick = 1
field_count Exch = 10

-- all kinds
abbrev pub all_kinds : List LineKind
all_kinds = Pass ∷ Tick ∷ Exch ∷ []

-- the kind of a line after the first, by its first field
abbrev pub kind_of : List ℕ → Option LineKind
kind_of word = find (λ kind. same_word (word_of kind) word) all_kinds
