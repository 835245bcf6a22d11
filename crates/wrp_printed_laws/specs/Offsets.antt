-- How the offset in a `track` line follows from the event lines and the `step` lines up to it, and how the tick count in each
-- line follows from the event lines (this project's profile).
use Rattle.std.specs.Prelude.{◌≡◌, ℕ, ◌+◌, ℤ, pos, ◌+ℤ◌, ◌*ℤ◌, ◌<◌, ◌&&◌, if◌then◌else◌, is_some, unwrap_or, List, [], ◌∷◌, ◌++◌, Option, None, Some, codes}
use Rattle.std.specs.Fmt.{decimal, signed_decimal}
use Rattle.std.specs.List.{AllByRecursion}
use Rattle.wrp_base.specs.Clock.{period_of}
use Rattle.wrp_network.specs.declared.configuration.NetCfg.{NetCfg}
use Rattle.wrp_base.specs.Lines.{parts_of}
use Rattle.wrp_network.specs.Network.{name_at, node_count}
use Rattle.wrp_bounds.specs.Bounds.{path_of}
use Rattle.wrp_caldb.specs.Name.{same_name}
use Rattle.wrp_fields.specs.Numbers.{number_of}
use Rattle.wrp_trace.specs.EventFields.{before, behind}
use Rattle.wrp_printed_laws.specs.Words.{Reads, gap_parts}

-- an event line, without its LF, and the lines that are printed of it
pub record Seen : Type 0 where
  pub event : List ℕ
  pub lines : List (List ℕ)

-- What the fields of an event line say of a node

-- `up,NODE,OFF`: the offset with which it starts the node's clock
abbrev pub start_in : List ℕ → List (List ℕ) → Option ℤ
start_in node (kind ∷ name ∷ off ∷ more) =
    if same_name kind (codes "up") && same_name name node then number_of off else None
start_in node _ = None

-- NODE=DRIFT among these fields; 0 if there is none (octet 61 is `=`)
abbrev pub drift_in : List ℕ → List (List ℕ) → ℤ
drift_in node [] = pos 0
drift_in node (field ∷ fields) =
    if same_name (before 61 field) node then unwrap_or (number_of (behind 61 field)) (pos 0) else drift_in node fields

-- `pass,DT` with the drifts: how far it moves the node's clock
abbrev pub passed_in : List ℕ → List (List ℕ) → ℤ
passed_in node (kind ∷ span ∷ fields) = if same_name kind (codes "pass") then drift_in node fields else pos 0
passed_in node _ = pos 0

-- `tick,NODE`: 1, and 0 for any other line
abbrev pub ticks_in : List ℕ → List (List ℕ) → ℕ
ticks_in node (kind ∷ name ∷ more) = if same_name kind (codes "tick") && same_name name node then 1 else 0
ticks_in node _ = 0

-- What a printed line says of a node

-- NODE TICK step CYCLES: by how many periods it moves the node's clock; 0 for any other line
abbrev pub cycles_in : List ℕ → List (List ℕ) → ℤ
cycles_in node (name ∷ tick ∷ kind ∷ cycles ∷ more) =
    if same_name kind (codes "step") && same_name name node then unwrap_or (number_of cycles) (pos 0) else pos 0
cycles_in node _ = pos 0

-- Sums

abbrev pub total : {A : Type 0} → (A → ℤ) → List A → ℤ
total f [] = pos 0
total f (x ∷ xs) = f x +ℤ total f xs

-- by how much the clock of a node moves with an event line and its printed lines, in tau
abbrev pub moved_by : (period : ℕ) → List ℕ → Seen → ℤ
moved_by period node seen =
    passed_in node (parts_of seen.event) +ℤ (total (λ line. cycles_in node (gap_parts line)) seen.lines *ℤ pos period)

-- Tick counts

-- the ticks of the node since its last `up` in what is seen, the newest first
abbrev pub ticks_since : List ℕ → List Seen → ℕ
ticks_since node [] = 0
ticks_since node (it ∷ older) =
    if is_some (start_in node (parts_of it.event)) then 0
    else ticks_in node (parts_of it.event) + ticks_since node older

-- the line reads NODE TICK and more: NODE is a node of the network, and TICK counts its ticks since its last start
abbrev pub TellsTicks : NetCfg → List Seen → List ℕ → Type 0
TellsTicks cfg seen line =
    (number : ℕ) × (more : List (List ℕ)) × (number < node_count cfg)
    × (gap_parts line ≡ name_at cfg number ∷ decimal (ticks_since (name_at cfg number) seen) ∷ more)

-- this holds for each line that is printed of the newest event line. Thus a `step` line from before a start of its
-- node is counted after that start only at an event line where the node has as many ticks again
abbrev pub TicksFollow : NetCfg → Seen → List Seen → Type 0
TicksFollow cfg newest older = AllByRecursion (TellsTicks cfg (newest ∷ older)) newest.lines

-- Since the last start

-- this is everything since the last `up` of the node in what is seen, the newest first; that `up` started the
-- node's clock with this offset
pub record IsSince (node : List ℕ) (seen since : List Seen) (start : ℤ) : Type 0 where
  pub up : Seen
  pub earlier : List Seen
  pub divided : seen ≡ since ++ up ∷ earlier
  pub starts : start_in node (parts_of up.event) ≡ Some start
  pub last : AllByRecursion (λ (it : Seen). start_in node (parts_of it.event) ≡ None) since

-- Track lines

-- these words are what a `track` line of the newest event line says: the event is a tick of the node, BOUND is the
-- bound of its path in the network, and OFF is its start plus everything by which its clock has moved since
pub record Follows (cfg : NetCfg) (newest : Seen) (older : List Seen) (node bound off : List ℕ) : Type 0 where
  pub number : ℕ
  pub there : number < node_count cfg
  pub name : name_at cfg number ≡ node
  pub since : List Seen
  pub start : ℤ
  pub is_since : IsSince node (newest ∷ older) since start
  pub ticks : ticks_in node (parts_of newest.event) ≡ 1
  pub bound_is : decimal (path_of cfg number) ≡ bound
  pub off_is : signed_decimal (start +ℤ total (moved_by (period_of cfg.clock) node) since) ≡ off

-- this holds for each line NODE TICK track EST BOUND true OFF that is printed of the newest event
-- line
abbrev pub TracksFollow : NetCfg → Seen → List Seen → Type 0
TracksFollow cfg newest older =
    AllByRecursion
    (λ line. (node tick est bound off : List ℕ) →
    Reads line (node ∷ tick ∷ codes "track" ∷ est ∷ bound ∷ codes "true" ∷ off ∷ []) →
    Follows cfg newest older node bound off)
    newest.lines

-- and for each event line; the newest is first
abbrev pub AllFollow : NetCfg → List Seen → Type 0
AllFollow cfg [] = Unit {0}
AllFollow cfg (newest ∷ older) = TicksFollow cfg newest older × TracksFollow cfg newest older × AllFollow cfg older
