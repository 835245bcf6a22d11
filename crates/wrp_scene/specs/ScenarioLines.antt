-- The lines of a scenario: what each says, and which fault comes first in a line that says nothing (this project's
-- profile). The kind is tried first, then the number of fields, then the fields from left to right. If several
-- lines of one kind are about the same thing, the last one counts, but each fault line adds a fault.
use Rattle.std.specs.Prelude.{ℕ, ℤ, pos, negsuc, ◌*◌, ◌/◌, ◌==◌, nat_lt, is_none, if◌then◌else◌, Option, None, Some, Result, Ok, Err, List, [], ◌∷◌, ◌++◌, length, slice_set, codes}
use Rattle.wrp_network.specs.declared.configuration.NetCfg.{NetCfg}
use Rattle.wrp_base.specs.declared.fault.TraceFault.{TraceFault}
use Rattle.wrp_base.specs.declared.fault.TraceFault.TheVariants.{Fields, Kind, Name}
use Rattle.wrp_base.specs.Lines.{parts_of}
use Rattle.wrp_network.specs.Network.{link_above}
use Rattle.wrp_caldb.specs.Name.{same_name}
use Rattle.wrp_fields.specs.Fields.{number_at}
use Rattle.wrp_names.specs.Fields.{node_at, link_at}
use Rattle.wrp_fields.specs.Numbers.{number_in}
use Rattle.wrp_fields.specs.Reading.{◌>>=◌, field_of, number_or_fault, name_or_fault, is_plain}
use Rattle.wrp_scene.specs.declared.scene.fault.Fault.{Fault}
use Rattle.wrp_scene.specs.declared.scene.fault.FaultKind.{FaultKind}
use Rattle.wrp_scene.specs.declared.scene.fault.FaultKind.TheVariants.{Down, Up, Cut, Join}
use Rattle.wrp_scene.specs.declared.scene.kinds.SceneKind.{SceneKind}
use Rattle.wrp_scene.specs.declared.scene.kinds.SceneKind.TheVariants as kinds
use Rattle.wrp_scene.specs.Scenario.{SceneAt, tau_of_ms, off_of_ns, fibre_room}
use Rattle.wrp_scene.specs.ScenarioKinds.{field_count, kind_of}

-- Fields

-- a time of 0 to 10^7 ms
abbrev pub time_at : ℕ → List (List ℕ) → Result ℕ TraceFault
time_at place fields = number_at 0 10_000_000 place fields

-- the delay of both ways of a fibre, in tau: three times it is at most four times the room for a
-- fibre
abbrev pub sum_at : NetCfg → ℕ → List (List ℕ) → Result ℕ TraceFault
sum_at cfg place fields = number_at 0 (4 * fibre_room cfg / 3) place fields

-- so many of 1000
abbrev pub permille_at : ℕ → List (List ℕ) → Result ℕ TraceFault
permille_at place fields = number_at 0 1_000 place fields

-- an offset of at most 10^12 ns, either sign
abbrev pub ns_at : ℕ → List (List ℕ) → Result ℤ TraceFault
ns_at place fields =
    number_or_fault place
    (number_in (negsuc 999_999_999_999) (pos 1_000_000_000_000) (field_of place fields))

-- a rate of at most 100,000, either sign
abbrev pub rate_at : ℕ → List (List ℕ) → Result ℤ TraceFault
rate_at place fields =
    number_or_fault place (number_in (negsuc 99_999) (pos 100_000) (field_of place fields))

-- a node that has a link above it: the grandmaster has none, and no offset
abbrev pub below : NetCfg → ℕ → ℕ → Result ℕ TraceFault
below cfg place node = name_or_fault place (if is_none (link_above cfg node) then None else Some node)

abbrev pub lower_at : NetCfg → ℕ → List (List ℕ) → Result ℕ TraceFault
lower_at cfg place fields = do
  node ← node_at cfg place fields
  below cfg place node

-- what a fault does to a node
abbrev pub node_fault : NetCfg → List (List ℕ) → (ℕ → FaultKind) → Result FaultKind TraceFault
node_fault cfg fields kind = do
  node ← node_at cfg 4 fields
  Ok (kind node)

-- what a fault does to a link
abbrev pub link_fault : NetCfg → List (List ℕ) → (ℕ → FaultKind) → Result FaultKind TraceFault
link_fault cfg fields kind = do
  link ← link_at cfg 4 fields
  Ok (kind link)

-- what a fault does: its word is tried first, and then the name
abbrev pub fault_kind : NetCfg → List (List ℕ) → List ℕ → Result FaultKind TraceFault
fault_kind cfg fields word =
    if same_name word (codes "down") then node_fault cfg fields Down
    else if same_name word (codes "up") then node_fault cfg fields Up
    else if same_name word (codes "cut") then link_fault cfg fields Cut
    else if same_name word (codes "join") then link_fault cfg fields Join
    else Err (Name 3)

-- Lines

-- `length,MS`
abbrev pub length_line : SceneAt → List (List ℕ) → Result SceneAt TraceFault
length_line scene fields = do
  ms ← time_at 2 fields
  Ok (record scene { duration = tau_of_ms ms })

-- `fibre,LINK,SUM`
abbrev pub fibre_line : NetCfg → SceneAt → List (List ℕ) → Result SceneAt TraceFault
fibre_line cfg scene fields = do
  link ← link_at cfg 2 fields
  sum ← sum_at cfg 3 fields
  Ok (record scene { sums = slice_set scene.sums link sum })

-- `offset,NODE,NS`
abbrev pub offset_line : NetCfg → SceneAt → List (List ℕ) → Result SceneAt TraceFault
offset_line cfg scene fields = do
  node ← lower_at cfg 2 fields
  ns ← ns_at 3 fields
  Ok (record scene { offsets = slice_set scene.offsets node (off_of_ns ns) })

-- `free,NODE,RATE`
abbrev pub free_line : NetCfg → SceneAt → List (List ℕ) → Result SceneAt TraceFault
free_line cfg scene fields = do
  node ← node_at cfg 2 fields
  rate ← rate_at 3 fields
  Ok (record scene { frees = slice_set scene.frees node rate })

-- `loss,PERMILLE`
abbrev pub loss_line : SceneAt → List (List ℕ) → Result SceneAt TraceFault
loss_line scene fields = do
  permille ← permille_at 2 fields
  Ok (record scene { loss = permille })

-- `repeat,PERMILLE`
abbrev pub repeat_line : SceneAt → List (List ℕ) → Result SceneAt TraceFault
repeat_line scene fields = do
  permille ← permille_at 2 fields
  Ok (record scene { repeat = permille })

-- `fault,MS,KIND,NAME`: a fault, for any scenario
abbrev pub fault_at : NetCfg → List (List ℕ) → Result Fault TraceFault
fault_at cfg fields = do
  ms ← time_at 2 fields
  kind ← fault_kind cfg fields (field_of 3 fields)
  Ok (record { at = tau_of_ms ms; kind = kind })

-- the same as a line of a scenario, which has room for 64
abbrev pub with_fault : NetCfg → SceneAt → List (List ℕ) → Result SceneAt TraceFault
with_fault cfg scene fields = do
  fault ← fault_at cfg fields
  Ok (record scene { faults = scene.faults ++ fault ∷ [] })

abbrev pub fault_line : NetCfg → SceneAt → List (List ℕ) → Result SceneAt TraceFault
fault_line cfg scene fields =
    if nat_lt (length scene.faults) 64 then with_fault cfg scene fields else Err Fields

-- the scenario after a line of a kind, by its fields
abbrev pub line_of_kind : NetCfg → SceneAt → SceneKind → List (List ℕ) → Result SceneAt TraceFault
line_of_kind cfg scene kinds.Length fields = length_line scene fields
line_of_kind cfg scene kinds.Fibre fields = fibre_line cfg scene fields
line_of_kind cfg scene kinds.Offset fields = offset_line cfg scene fields
line_of_kind cfg scene kinds.Free fields = free_line cfg scene fields
line_of_kind cfg scene kinds.Loss fields = loss_line scene fields
line_of_kind cfg scene kinds.Repeat fields = repeat_line scene fields
line_of_kind cfg scene kinds.Fault fields = fault_line cfg scene fields

-- the same, if the kind is known and has so many fields
abbrev pub counted_of : NetCfg → SceneAt → List (List ℕ) → Option SceneKind → Result SceneAt TraceFault
counted_of cfg scene fields None = Err Kind
counted_of cfg scene fields (Some kind) =
    if length fields == field_count kind then line_of_kind cfg scene kind fields else Err Fields

-- the scenario after a line of these fields, or the first fault that they have
abbrev pub scene_of : NetCfg → SceneAt → List (List ℕ) → Result SceneAt TraceFault
scene_of cfg scene fields = counted_of cfg scene fields (kind_of (field_of 1 fields))

-- the scenario after a line, or the first fault that the line has
abbrev pub scene_read : NetCfg → SceneAt → List ℕ → Result SceneAt TraceFault
scene_read cfg scene line = if is_plain line then scene_of cfg scene (parts_of line) else Err Fields

-- what is read, if a call that may end in a fault leaves this scenario
abbrev pub outcome : Result (Unit {0}) TraceFault → SceneAt → Result SceneAt TraceFault
outcome (Ok done) scene = Ok scene
outcome (Err fault) scene = Err fault
