-- The forms of a command line: which words have the form of a command (this project's profile).
use Rattle.std.specs.Prelude.{◌≡◌, ℕ, Option, MatchOption, List, [], ◌∷◌, ◌++◌, codes}
use Rattle.std.specs.Borrow.{Bor}
use Rattle.wrp_words.specs.declared.command_line.Form.{Form}
use Rattle.wrp_words.specs.declared.command_line.Form.TheVariants as form
use Rattle.wrp_words.specs.Alone.{IsAlone}

-- the text begins with a minus sign
abbrev pub IsDashed : List ℕ → Type 0
IsDashed text = (rest : List ℕ) × (text ≡ 45 ∷ rest)

-- the words are the option with this value: after `=`, or as the next word, which does not begin with a minus sign
abbrev pub HasOption : List ℕ → List (List ℕ) → List ℕ → Type 0
HasOption option (word ∷ []) value = word ≡ option ++ codes "=" ++ value
HasOption option (given ∷ next ∷ []) value =
    (given ≡ option) × (next ≡ value) × (IsDashed value → ⊥)
HasOption option _ value = ⊥

-- the words are a command with one option of this value
abbrev pub IsCommandWith : List ℕ → List ℕ → List (List ℕ) → List ℕ → Type 0
IsCommandWith command option (first ∷ rest) value = (first ≡ command) × HasOption option rest value
IsCommandWith command option [] value = ⊥

-- the words have this form, with this value of the option
abbrev pub IsForm : Form → List (List ℕ) → List ℕ → Type 0
IsForm form.Audit words value = (words ≡ codes "audit" ∷ []) × (value ≡ [])
IsForm form.Emit words value = IsCommandWith (codes "audit") (codes "--emit") words value
IsForm form.Replay words value = IsCommandWith (codes "replay") (codes "--node") words value
IsForm form.Simulate words value = IsCommandWith (codes "simulate") (codes "--seed") words value
IsForm form.Loop words value = IsCommandWith (codes "loop") (codes "--seed") words value
IsForm (form.Alone alone) words value = IsAlone words alone × (value ≡ [])

-- the words have this form
abbrev pub HasForm : List (List ℕ) → Form → Type 0
HasForm words form = (value : List ℕ) × IsForm form words value

-- the value that the words give an option, or none
abbrev pub GivesOption : List ℕ → List (List ℕ) → Option (Bor (List ℕ)) → Type 0
GivesOption option words found =
    MatchOption found
    ((value : List ℕ) → HasOption option words value → ⊥)
    (λ value. HasOption option words value.now)

-- the value that the words give a command's option, or none
abbrev pub GivesValue : List ℕ → List ℕ → List (List ℕ) → Option (Bor (List ℕ)) → Type 0
GivesValue command option words found =
    MatchOption found
    ((value : List ℕ) → IsCommandWith command option words value → ⊥)
    (λ value. IsCommandWith command option words value.now)
