-- The track lines of what was printed: in each that has its LF, the true offset is at most the bound (this project's profile).
use Rattle.std.specs.Prelude.{◌≡◌, ◌≤◌, ℕ, ℤ, unsigned_abs, Option, Some, List, [], ◌∷◌, codes}
use Rattle.std.specs.Fmt.{decimal, signed_decimal}
use Rattle.std.specs.List.{AllByRecursion}
use Rattle.wrp_records.specs.Lines.{lines_of}
use Rattle.wrp_records.specs.Words.{line_of, IsWord}
use Rattle.wrp_commands.specs.Request.{Request}
use Rattle.wrp_commands.specs.Request as requests

-- what is asked for is an audit, the inputs of a node in one, a simulation or a run over a link: neither a replay, nor
-- a command that stands alone
abbrev pub ReportsOffsets : Option Request → Type 0
ReportsOffsets (Some (requests.OnNetwork (requests.Replay name))) = ⊥
ReportsOffsets (Some (requests.StandAlone alone)) = ⊥
ReportsOffsets _ = Unit {0}

-- if the line is NODE TICK track EST BOUND true OFF, with its LF, BOUND and OFF are numbers in tau, and the size of OFF
-- is at most BOUND
abbrev pub IsWithinItsBound : List ℕ → Type 0
IsWithinItsBound line =
    (node tick est bound off : List ℕ) → IsWord node → IsWord tick → IsWord est → IsWord bound → IsWord off →
    line ≡ line_of (node ∷ tick ∷ codes "track" ∷ est ∷ bound ∷ codes "true" ∷ off ∷ []) →
    (most : ℕ) × (offset : ℤ)
    × (decimal most ≡ bound) × (signed_decimal offset ≡ off) × (unsigned_abs offset ≤ most)

-- so it is with each line of these octets
abbrev pub TracksAreWithinBounds : List ℕ → Type 0
TracksAreWithinBounds octets = AllByRecursion IsWithinItsBound (lines_of octets)
