-- The event lines that a run over a link printed, given to an audit, print its other lines again (this project's profile).
use Rattle.std.specs.Prelude.{◌≡◌, ℕ, List, [], ◌∷◌, ◌++◌, codes}
use Rattle.std.specs.List.{concat}
use Rattle.wrp_io.specs.declared.link.LinkCall.{LinkCall}
use Rattle.wrp_loop.specs.LoopRun.{place}
use Rattle.wrp_loop.specs.LoopText.{forged_lines, marked_in, others_in}
use Rattle.wrp_projection_laws.specs.Law.{HasRecords}
use Rattle.wrp_records.specs.declared.status.Status.TheVariants.{Done}
use Rattle.wrp_records.specs.Lines.{lines_of}
use Rattle.wrp_commands.specs.Request.{CommandLine}
use Rattle.wrp_asked.specs.Answer.{Answer}
use Rattle.wrp_asked.specs.Input.{network_text}
use Rattle.wrp_asked.specs.LoopHeadline.{LoopOf}
use Rattle.wrp_asked.specs.Tasks.{IsAuditing, IsLooping}

-- the lines of these octets that begin with `= `, without these two octets, each with its LF
abbrev pub event_records : List ℕ → List ℕ
event_records octets = concat (marked_in (lines_of octets))

-- an audit of this input, which calls no link, is expected to end with Done, and to write the other lines of these
-- octets in their order, except the last one, which gives the number of forged datagrams, if any was forged
pub record IsAuditedAgain (auditing : CommandLine) (again octets : List ℕ) (forged : ℕ) : Type 0 where
  pub text : List ℕ
  pub due : Answer auditing again [] Done text
  pub lines : others_in (lines_of octets) ≡ lines_of text ++ forged_lines forged

-- if a run over a link is expected to end with Done and to write some octets, then the audit of its event lines in
-- its network is also expected to end with Done, as above
abbrev pub LoopIsAuditedAgain : Type 0
LoopIsAuditedAgain =
    (looping auditing : CommandLine) (seed : ℕ) (input again octets : List ℕ) (calls : List LinkCall) →
    IsLooping looping seed → IsAuditing auditing → Answer looping input calls Done octets →
    HasRecords input (event_records octets) again →
    (loop : LoopOf looping input calls Done octets) × IsAuditedAgain auditing again octets (place loop.last).forged

-- octets that end with LF, which is octet 10, or no octets
abbrev pub EndsLine : List ℕ → Type 0
EndsLine [] = Unit {0}
EndsLine (octet ∷ []) = octet ≡ 10
EndsLine (octet ∷ next ∷ octets) = EndsLine (next ∷ octets)

-- a network text, the line `---`, and records
abbrev pub with_records : (text records : List ℕ) → List ℕ
with_records text records = text ++ (codes "---" ++ 10 ∷ records)

-- such an input has the same network text as another input, if that text ends with LF, as it does before a line
-- `---`
abbrev pub TextWithRecords : Type 0
TextWithRecords =
    (input records : List ℕ) → EndsLine (network_text input) → HasRecords input records (with_records (network_text input) records)
