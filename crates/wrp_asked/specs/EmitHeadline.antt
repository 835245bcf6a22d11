-- The aim of the project for what an audit wrote that was asked for the inputs of a node, for each status. It printed
-- exactly these (`PrintsTheInputs`), and no `track` line (`TellsNoTrack`); and the events that they come from carry the
-- other parts, as the events of an audit do that prints each step. This project's profile.
use Rattle.std.specs.Prelude.{◌≡◌, ◌⊎◌, ℕ, List, [], ◌∷◌, ◌++◌, codes}
use Rattle.std.specs.List.{AllByRecursion}
use Rattle.wrp_course.specs.Run.{Happened}
use Rattle.wrp_course.specs.Setting.{Setting}
use Rattle.wrp_records.specs.declared.status.Status.{Status}
use Rattle.wrp_records.specs.declared.status.Status.TheVariants.{Usage}
use Rattle.wrp_records.specs.Lines.{lines_of}
use Rattle.wrp_commands.specs.Request.{CommandLine}
use Rattle.wrp_asked.specs.Answer.{AsksNone}
use Rattle.wrp_audit.specs.AuditText.{event_lines, given_lines}
use Rattle.wrp_records.specs.Words.{IsWord}
use Rattle.wrp_asked.specs.Headline.{Came, CarriesParts, EndsEvents, Prints, ReachesNone}
use Rattle.wrp_asked.specs.Input.{network_text}
use Rattle.wrp_asked.specs.Tasks.{Emit, AsksFor}

-- The first part

-- the inputs that events which came give the node that is asked for, and what follows them: no counters
pub record InputsOf (asked : CommandLine) (input : List ℕ) (status : Status) (octets : List ℕ) : Type 0 where
  pub name : List ℕ
  pub setting : Setting
  pub node : ℕ
  pub asks : AsksFor asked (network_text input) (Emit name setting node)
  pub events : List Happened
  pub came : Came asked input setting events
  pub last : List ℕ
  pub ends : EndsEvents status setting came.front came.behind [] last
  pub is : octets ≡ given_lines setting node events ++ last

-- if the network has no node of the name that is asked for
abbrev pub LacksNode : CommandLine → List ℕ → Status → List ℕ → Type 0
LacksNode asked input Usage octets = AsksNone asked (network_text input) × (octets ≡ asked.usage)
LacksNode asked input _ octets = ⊥

-- an audit that is asked for the inputs of a node prints exactly these
abbrev pub PrintsTheInputs : CommandLine → List ℕ → Status → List ℕ → Type 0
PrintsTheInputs asked input status octets =
    Prints
    (λ due text. LacksNode asked input due text ⊎ (ReachesNone input due text ⊎ InputsOf asked input due text))
    status octets

-- No track line

-- the line does not begin as the line of an estimate in TRACK does: NODE TICK track
abbrev pub TellsNoTrack : List ℕ → Type 0
TellsNoTrack line =
    (node tick rest : List ℕ) → IsWord node → IsWord tick → line ≡ node ++ 32 ∷ (tick ++ 32 ∷ (codes "track" ++ rest)) → ⊥

-- no line that is written when a command line is refused begins so
abbrev pub HasPlainUsage : CommandLine → Type 0
HasPlainUsage asked = AllByRecursion TellsNoTrack (lines_of asked.usage)

-- what prints the inputs of a node then prints no such line, nor the front of one
abbrev pub EmissionsTellNoTrack : Type 0
EmissionsTellNoTrack =
    (asked : CommandLine) (input : List ℕ) (status : Status) (octets : List ℕ) → HasPlainUsage asked →
    PrintsTheInputs asked input status octets → AllByRecursion TellsNoTrack (lines_of octets)

-- All parts

-- of an audit that was asked for the inputs of a node, ended with this status and wrote these octets
pub record EmitHeadline (asked : CommandLine) (input : List ℕ) (status : Status) (octets : List ℕ) : Type 0 where
  pub prints : PrintsTheInputs asked input status octets
  pub untracked : AllByRecursion TellsNoTrack (lines_of octets)
  pub carries : (s : Setting) (events : List Happened) → Came asked input s events → CarriesParts event_lines s events
