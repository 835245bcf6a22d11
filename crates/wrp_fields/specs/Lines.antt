-- Plain lines (this project's profile).
use Rattle.std.specs.Prelude.{◌==◌, ◌<◌, ◌≢◌, ◌≡◌, ℕ, false, List, []}
use Rattle.std.specs.List.{AllByRecursion}

-- an octet below 128 that is not a quotation mark, CR or LF
abbrev pub IsPlainOctet : ℕ → Type 0
IsPlainOctet octet =
    ((octet == 34) ≡ false) × ((octet == 13) ≡ false) × ((octet == 10) ≡ false) × (octet < 128)

-- a line that is split at its commas: one or more octets, all of them plain
abbrev pub IsLine : List ℕ → Type 0
IsLine line = (line ≢ []) × AllByRecursion IsPlainOctet line
