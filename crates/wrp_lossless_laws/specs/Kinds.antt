-- The lines of the kinds step, link, servo and track, as a reader of an output finds them (this project's profile).
use Rattle.std.specs.Prelude.{ℕ, ◌||◌, Bool, false, List, ◌∷◌, filter, codes}
use Rattle.wrp_caldb.specs.Name.{same_name}
use Rattle.wrp_printed_laws.specs.Words.{gap_parts}
use Rattle.wrp_records.specs.Lines.{lines_of}

-- a word that names one of the kinds
abbrev pub is_kind : List ℕ → Bool
is_kind word =
    same_name word (codes "step")
    || (same_name word (codes "link") || (same_name word (codes "servo") || same_name word (codes "track")))

-- the third word names a kind: NODE TICK KIND ..
abbrev pub has_kind : List (List ℕ) → Bool
has_kind (node ∷ (tick ∷ (kind ∷ more))) = is_kind kind
has_kind _ = false

-- a line, read as the words between its spaces
abbrev pub is_of_kind : List ℕ → Bool
is_of_kind line = has_kind (gap_parts line)

-- the lines of an output that are of one of the kinds
abbrev pub kinds_in : List ℕ → List (List ℕ)
kinds_in octets = filter is_of_kind (lines_of octets)
