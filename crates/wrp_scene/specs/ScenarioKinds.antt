-- The kinds of scenario lines: the word that each begins with, and its number of fields (this project's profile).
use Rattle.std.specs.Prelude.{ℕ, Option, List, [], ◌∷◌, codes}
use Rattle.std.specs.List.{find}
use Rattle.wrp_caldb.specs.Name.{same_name}
use Rattle.wrp_scene.specs.declared.scene.kinds.SceneKind.{SceneKind}
use Rattle.wrp_scene.specs.declared.scene.kinds.SceneKind.TheVariants.{Length, Fibre, Offset, Free, Loss, Repeat, Fault}

-- the word of a kind
abbrev pub word_of : SceneKind → List ℕ
word_of Length = codes "length"
word_of Fibre = codes "fibre"
word_of Offset = codes "offset"
word_of Free = codes "free"
word_of Loss = codes "loss"
word_of Repeat = codes "repeat"
word_of Fault = codes "fault"

-- how many fields a line of a kind has, its word among them
abbrev pub field_count : SceneKind → ℕ
field_count Length = 2
field_count Fibre = 3
field_count Offset = 3
field_count Free = 3
field_count Loss = 2
field_count Repeat = 2
field_count Fault = 4

-- all kinds
abbrev pub all_kinds : List SceneKind
all_kinds = Length ∷ Fibre ∷ Offset ∷ Free ∷ Loss ∷ Repeat ∷ Fault ∷ []

-- the kind of a line, by its first field
abbrev pub kind_of : List ℕ → Option SceneKind
kind_of word = find (λ kind. same_name (word_of kind) word) all_kinds
