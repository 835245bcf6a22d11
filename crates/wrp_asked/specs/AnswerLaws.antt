-- What holds of every answer (this project's profile).
use Rattle.std.specs.Prelude.{◌≡◌, ℕ, IfSome, List}
use Rattle.wrp_io.specs.declared.link.LinkCall.{LinkCall}
use Rattle.wrp_records.specs.declared.status.Status.{Status}
use Rattle.wrp_commands.specs.Request.{CommandLine}
use Rattle.wrp_asked.specs.Answer.{Answer}
use Rattle.wrp_asked.specs.EmitHeadline.{HasPlainUsage}
use Rattle.wrp_asked.specs.Ends.{Ends, Run, Wrote}
use Rattle.wrp_asked.specs.PrintedTracks.{ReportsOffsets, TracksAreWithinBounds}

-- for a command, an input and the calls of a link at most one status and one output are expected
abbrev pub OneAnswer : Type 0
OneAnswer =
    (asked : CommandLine) (input : List ℕ) (calls : List LinkCall) (one other : Status) (octets others : List ℕ) →
    Answer asked input calls one octets → Answer asked input calls other others → (one ≡ other) × (octets ≡ others)

-- of what a run wrote each track line is within its bound
abbrev pub PrintsWithinBounds : Run → Type 0
PrintsWithinBounds run = (octets : List ℕ) × Wrote run octets × TracksAreWithinBounds octets

-- so it is, whatever the status is, if neither a replay nor a command that stands alone is asked for
abbrev pub RunsPrintWithinBounds : Type 0
RunsPrintWithinBounds =
    (run : Run) (status : Status) → Ends run status → ReportsOffsets run.asked.request → HasPlainUsage run.asked →
    IfSome run.source.before (λ input. PrintsWithinBounds run)
