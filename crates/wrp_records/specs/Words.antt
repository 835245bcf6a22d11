-- Lines of words: what a program writes can be split at its spaces (this project's profile).
use Rattle.std.specs.Prelude.{◌≡◌, ◌==◌, ◌&&◌, not, true, ℕ, Bool, List, [], ◌∷◌, ◌++◌, length, take}
use Rattle.std.specs.List.{list_all}

-- an octet of a word: no space and no LF
abbrev pub is_word_octet : ℕ → Bool
is_word_octet c = not (c == 32) && not (c == 10)

-- a word: it has no space and no LF
abbrev pub IsWord : List ℕ → Type 0
IsWord octets = list_all is_word_octet octets ≡ true

-- the line of some words: a space (octet 32) between two of them, LF (octet 10) after the last
abbrev pub line_of : List (List ℕ) → List ℕ
line_of [] = 10 ∷ []
line_of (word ∷ []) = word ++ 10 ∷ []
line_of (word ∷ words) = word ++ 32 ∷ line_of words

-- a text begins with an older one
abbrev pub Begins : List ℕ → List ℕ → Type 0
Begins old new = take (length old) new ≡ old
