-- The aim of the project, part by part, for what an audit wrote, for each status: it printed exactly the nodes' steps
-- (`PrintsTheSteps`); no port was in WR_LINK_ON unless its peer had passed the required steps of that same handshake
-- (`LinkOnIsEarned`); every track line's true offset is at most its printed bound (`TracksAreWithin`, in
-- TrackLines.antt); a malformed or foreign frame changed only a counter (`DropsOnlyCount`); and each node in TRACK was
-- within its hop of its parent, with what follows from that (`HopByHop`, in HopByHop.antt). This project's profile.
use Rattle.std.specs.Prelude.{◌≡◌, ◌⊎◌, ℕ, ◌+◌, ◌<◌, ◌≤◌, Some, List, [], ◌∷◌, ◌++◌, length, map, take, codes}
use Rattle.std.specs.Fmt.{decimal}
use Rattle.std.specs.List.{AllByRecursion}
use Rattle.wrp_network.specs.Network.{name_at}
use Rattle.wrp_records.specs.Words.{line_of, IsWord}
use Rattle.wrp_node.specs.declared.interface.Input.{Input}
use Rattle.wrp_node.specs.declared.interface.Input.TheVariants.{Frame}
use Rattle.wrp_node.specs.Laws.{reason_of}
use Rattle.wrp_course.specs.Dropped.{LeavesACount, given_at}
use Rattle.wrp_course.specs.Earned.{AllHaveEarned, IsOn}
use Rattle.wrp_course.specs.Given.{Given}
use Rattle.wrp_course.specs.Run.{Happened, world_after}
use Rattle.wrp_course.specs.Runs.{IsRun}
use Rattle.wrp_course.specs.Setting.{Setting, node_setting_of}
use Rattle.wrp_course.specs.WorldAt.{WorldAt}
use Rattle.wrp_records.specs.declared.machine.Refusal.TheVariants as refusals
use Rattle.wrp_records.specs.declared.status.Status.{Status}
use Rattle.wrp_records.specs.declared.status.Status.TheVariants.{Done, BadNetwork, BadTrace, Broken, ReadFault, WriteFault, TooLarge, OutOfMemory}
use Rattle.wrp_audit.specs.Audited.{IsAudit}
use Rattle.wrp_audit.specs.Audits.{AuditRefuses}
use Rattle.wrp_audit.specs.AuditText.{audit_lines, event_lines}
use Rattle.wrp_network_world.specs.Counts.{all_counts}
use Rattle.wrp_commands.specs.Request.{CommandLine}
use Rattle.wrp_asked.specs.EventLines.{AtEachEvent, Writing}
use Rattle.wrp_asked.specs.HopByHop.{HopByHop}
use Rattle.wrp_asked.specs.Input.{network_text, behind_separator, network_limit}
use Rattle.wrp_records.specs.Lines.{lines_of, content_of}
use Rattle.wrp_records.specs.Refusals.{too_large_line}
use Rattle.wrp_replay.specs.Replays.{IsRefusedBy}
use Rattle.wrp_records.specs.Stream.{IsTooLarge, large_line}
use Rattle.wrp_asked.specs.Tasks.{Audit, Emit, AsksFor}
use Rattle.wrp_asked.specs.TrackLines.{TracksAreWithin}
use Rattle.wrp_bound_laws.specs.Chains.{AllFit}

-- Which events came

-- the audit of a network that this text describes is asked for, or the inputs of a node in it
abbrev pub AsksEventsOf : CommandLine → List ℕ → Setting → Type 0
AsksEventsOf asked text s = AsksFor asked text (Audit s) ⊎ ((name : List ℕ) × (n : ℕ) × AsksFor asked text (Emit name s n))

-- the first lines of the records say these events, which kept all premises one after another, in the network that the text
-- before the records describes
pub record Came (asked : CommandLine) (input : List ℕ) (s : Setting) (events : List Happened) : Type 0 where
  pub asks : AsksEventsOf asked (network_text input) s
  pub front : List (List ℕ)
  pub behind : List (List ℕ)
  pub divided : behind_separator (lines_of input) ≡ front ++ behind
  pub audit : IsAudit s (map content_of front) events

-- The first part

-- there is a next line, and it is so
abbrev pub NextIs : List (List ℕ) → (List ℕ → Type 0) → Type 0
NextIs behind IsSo = (line : List ℕ) × (rest : List (List ℕ)) × (behind ≡ line ∷ rest) × IsSo line

-- what follows what is written of the events, by the status: the counters, and no record is left; the line that names
-- the next record as refused, or as too large; nothing, if the source failed or memory ran out
abbrev pub EndsEvents : Status → Setting → (front behind : List (List ℕ)) → (counts last : List ℕ) → Type 0
EndsEvents Done s front behind counts last = (behind ≡ []) × (last ≡ counts)
EndsEvents BadTrace s front behind counts last =
    NextIs behind (λ line. AuditRefuses s (map content_of front) (content_of line) refusals.BadTrace last)
EndsEvents Broken s front behind counts last =
    NextIs behind (λ line. AuditRefuses s (map content_of front) (content_of line) refusals.Broken last)
EndsEvents TooLarge s front behind counts last =
    NextIs behind (λ line. IsTooLarge line (length front) × (last ≡ large_line (length front + 1)))
EndsEvents ReadFault s front behind counts last = last ≡ []
EndsEvents OutOfMemory s front behind counts last = last ≡ []
EndsEvents _ s front behind counts last = ⊥

-- the lines of the nodes' steps in events that came, and what follows them
pub record StepsOf (asked : CommandLine) (input : List ℕ) (status : Status) (octets : List ℕ) : Type 0 where
  pub setting : Setting
  pub events : List Happened
  pub came : Came asked input setting events
  pub last : List ℕ
  pub ends : EndsEvents status setting came.front came.behind (all_counts setting (world_after setting events)) last
  pub is : octets ≡ audit_lines setting events ++ last

-- if no record was reached, by the status: the line that names the network text as refused, or as too large; nothing,
-- if the source failed or memory ran out
abbrev pub ReachesNone : List ℕ → Status → List ℕ → Type 0
ReachesNone input BadNetwork octets =
    (length (network_text input) ≤ network_limit) × IsRefusedBy (network_text input) octets
ReachesNone input TooLarge octets = (network_limit < length (network_text input)) × (octets ≡ too_large_line)
ReachesNone input ReadFault octets = octets ≡ []
ReachesNone input OutOfMemory octets = octets ≡ []
ReachesNone input _ octets = ⊥

-- all that is expected for the status; if the sink failed, the first octets of what is expected for another
abbrev pub Prints : (Status → List ℕ → Type 0) → Status → List ℕ → Type 0
Prints IsDue WriteFault octets =
    (status : Status) × (due : List ℕ) × (count : ℕ) × (octets ≡ take count due) × IsDue status due
Prints IsDue status octets = IsDue status octets

-- an audit prints exactly the nodes' steps
abbrev pub PrintsTheSteps : CommandLine → List ℕ → Status → List ℕ → Type 0
PrintsTheSteps asked input status octets =
    Prints (λ due text. ReachesNone input due text ⊎ StepsOf asked input due text) status octets

-- The second part

-- a line that is written of an event which led to this world: if it says NODE TICK link PORT link-on, a node of that
-- name has a port of that number, which is in WR_LINK_ON and has earned it
abbrev pub IsEarnedLine : Setting → WorldAt → List ℕ → Type 0
IsEarnedLine s w line =
    (node tick port : List ℕ) → IsWord node → IsWord tick → IsWord port →
    line ≡ line_of (node ∷ tick ∷ codes "link" ∷ port ∷ codes "link-on" ∷ []) →
    (n : ℕ) × (p : ℕ) × (name_at s.cfg n ≡ node) × (decimal p ≡ port) × IsOn s w n p

-- after an event each port in WR_LINK_ON has earned it; and each port of which a line that is written of the event says
-- link-on has earned it and is there
pub record IsEarnedAt (write : Writing) (s : Setting) (before : List Happened) (h : Happened) : Type 0 where
  pub ports : AllHaveEarned s (world_after s (h ∷ before))
  pub lines : AllByRecursion (IsEarnedLine s (world_after s (h ∷ before))) (lines_of (write s before h))

-- after each event, each port in WR_LINK_ON has earned it, and so has each port of which the event's lines say link-on
abbrev pub LinkOnIsEarned : Writing → Setting → List Happened → Type 0
LinkOnIsEarned write s events = AtEachEvent (IsEarnedAt write s) events

-- The fourth part

-- no line is written of the event, nothing is put out in it, and one counter is all that it changes
pub record OnlyCounts (write : Writing) (s : Setting) (before : List Happened) (h : Happened) (n p reason : ℕ) : Type 0 where
  pub unwritten : write s before h ≡ []
  pub leaves : LeavesACount s before h n p reason

-- an input that is a frame which the node drops for one of the reasons 1 to 12
abbrev pub OnlyCountsIf : Writing → Setting → List Happened → Happened → Given → Input → Type 0
OnlyCountsIf write s before h g (Frame p octets raw sample) =
    (reason : ℕ) → reason_of (node_setting_of s g.to) ((world_after s before).node g.to) p g.says ≡ Some reason →
    OnlyCounts write s before h g.to p reason
OnlyCountsIf write s before h g _ = Unit {0}

-- so it is with each input that an event gives a node
abbrev pub DropsCountAt : Writing → Setting → List Happened → Happened → Type 0
DropsCountAt write s before h = AllByRecursion (λ (g : Given). OnlyCountsIf write s before h g g.input) (given_at s before h)

-- in each event, a frame that its node drops for one of the reasons 1 to 12 raises one counter, up to 2^32 - 1, and changes
-- nothing else; no node outputs anything, and no line is written of the event
abbrev pub DropsOnlyCount : Writing → Setting → List Happened → Type 0
DropsOnlyCount write s events = AtEachEvent (DropsCountAt write s) events

-- All parts

-- of these events, and of what is written of them
pub record CarriesParts (write : Writing) (s : Setting) (events : List Happened) : Type 0 where
  pub link_on : LinkOnIsEarned write s events
  pub tracks : TracksAreWithin write s events
  pub drops : DropsOnlyCount write s events
  pub hops : HopByHop s events

-- these events are a run of their network, so they kept all premises, their numbers are such as a line says, and they carry the
-- other parts
pub record CarriesRun (write : Writing) (s : Setting) (events : List Happened) : Type 0 where
  pub run : IsRun s events
  pub fit : AllFit events
  pub parts : CarriesParts write s events

-- whatever events came
abbrev pub EventsCarryParts : Type 0
EventsCarryParts =
    (asked : CommandLine) (input : List ℕ) (s : Setting) (events : List Happened) → Came asked input s events →
    CarriesParts event_lines s events

-- of an audit that ended with this status and wrote these octets
pub record Headline (asked : CommandLine) (input : List ℕ) (status : Status) (octets : List ℕ) : Type 0 where
  pub prints : PrintsTheSteps asked input status octets
  pub carries : (s : Setting) (events : List Happened) → Came asked input s events → CarriesParts event_lines s events
