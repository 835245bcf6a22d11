-- Lines of text: their parts between commas (this project's profile).
use Rattle.std.specs.Prelude.{ℕ, ◌==◌, List}
use Rattle.std.specs.List.{slice_split}

-- the parts of a line, which are separated by commas (octet 44)
abbrev pub parts_of : List ℕ → List (List ℕ)
parts_of line = slice_split (λ octet. octet == 44) line
