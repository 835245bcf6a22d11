-- What a run writes of the expected output (this project's profile).
use Rattle.std.specs.Prelude.{ℕ, Option, List, take}
use Rattle.std.specs.Io.KnownBytes.{Appends}

-- the first part of some octets was appended to what was held, if that is known
abbrev pub AppendsPart : Option (List ℕ) → Option (List ℕ) → List ℕ → Type 0
AppendsPart before now octets = (count : ℕ) × Appends before now (take count octets)
