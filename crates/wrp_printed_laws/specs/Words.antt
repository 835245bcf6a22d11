-- The words of a printed line (this project's profile).
use Rattle.std.specs.Prelude.{◌≡◌, ℕ, ◌==◌, ◌||◌, Bool, List, [], ◌∷◌, ◌++◌}
use Rattle.std.specs.List.{slice_split}

-- a space (octet 32) or an LF (octet 10)
abbrev pub is_gap : ℕ → Bool
is_gap c = (c == 32) || (c == 10)

-- the parts of a line between its spaces and its LF: after the LF of a whole line there is an empty
-- text
abbrev pub gap_parts : List ℕ → List (List ℕ)
gap_parts line = slice_split is_gap line

-- the line, with its LF, has these words
abbrev pub Reads : List ℕ → List (List ℕ) → Type 0
Reads line words = gap_parts line ≡ words ++ [] ∷ []
