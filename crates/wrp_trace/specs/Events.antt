-- Event lines: what each says, and which fault comes first in a line that says nothing (this
-- project's profile). The kind is tried first, then the number of fields, then the fields from left
-- to right.
use Rattle.std.specs.Prelude.{◌≡◌, ℕ, ℤ, if◌then◌else◌, Option, None, Some, Result, Ok, Err, List, [], map, drop, length}
use Rattle.wrp_network.specs.declared.configuration.NetCfg.{NetCfg}
use Rattle.wrp_base.specs.declared.fault.TraceFault.{TraceFault}
use Rattle.wrp_base.specs.declared.fault.TraceFault.TheVariants.{Fields, Kind}
use Rattle.wrp_base.specs.Lines.{parts_of}
use Rattle.wrp_course.specs.EventAt.{IsEventOf}
use Rattle.wrp_course.specs.declared.event.Event.{Event}
use Rattle.wrp_course.specs.declared.event.Event.TheVariants as events
use Rattle.wrp_trace.specs.declared.events.kinds.EventKind.{EventKind}
use Rattle.wrp_trace.specs.declared.events.kinds.EventKind.TheVariants as kinds
use Rattle.wrp_trace.specs.Changes.{SaidAt, nothing_said, changes_said, all_drifts, all_moves}
use Rattle.wrp_names.specs.Fields.{node_at, link_at}
use Rattle.wrp_trace.specs.EventFields.{span_at, delay_at, offset_at}
use Rattle.wrp_trace.specs.EventKinds.{may_have, kind_of}
use Rattle.wrp_trace.specs.Fields.{u16_at, u32_at, step_at, bits_at, octets_at, time_at, raw_from}
use Rattle.wrp_fields.specs.Reading.{◌>>=◌, field_of, is_plain}
use Rattle.wrp_trace.specs.Swaps.{bare_swap, swaps_said}

-- this much time passes, with what is said of the nodes and the links
abbrev pub pass_with : ℤ → SaidAt → Event
pass_with dt said =
    events.Pass dt (record { items = all_drifts said }) (record { items = all_moves said })

-- `pass,DT[,NODE=DRIFT][,LINK=MS/SM]`
abbrev pub pass_of : NetCfg → List (List ℕ) → Result Event TraceFault
pass_of cfg fields = do
  dt ← span_at 2 fields
  said ← changes_said cfg 3 (nothing_said cfg) (drop 2 fields)
  Ok (pass_with dt said)

-- `tick,NODE`
abbrev pub tick_of : NetCfg → List (List ℕ) → Result Event TraceFault
tick_of cfg fields = do
  node ← node_at cfg 2 fields
  Ok (events.Tick node)

-- `sample,NODE,BASE,BITS`
abbrev pub sample_of : NetCfg → List (List ℕ) → Result Event TraceFault
sample_of cfg fields = do
  node ← node_at cfg 2 fields
  base ← step_at 3 fields
  bits ← bits_at 4 fields
  Ok (events.Sample node base bits)

-- `depart,NODE,PORT,STAMP`
abbrev pub depart_of : NetCfg → List (List ℕ) → Result Event TraceFault
depart_of cfg fields = do
  node ← node_at cfg 2 fields
  port ← u16_at 3 fields
  stamp ← time_at 4 fields
  Ok (events.Depart node port stamp)

-- `arrive,K,RISING,FALLING,TAG`
abbrev pub arrive_of : List (List ℕ) → Result Event TraceFault
arrive_of fields = do
  frame ← u32_at 2 fields
  raw ← raw_from 3 fields
  Ok (events.Arrive frame raw)

-- `deliver,K`
abbrev pub deliver_of : List (List ℕ) → Result Event TraceFault
deliver_of fields = do
  frame ← u32_at 2 fields
  Ok (events.Deliver frame)

-- `noise,NODE,PORT,HEX,RISING,FALLING,TAG`
abbrev pub noise_of : NetCfg → List (List ℕ) → Result Event TraceFault
noise_of cfg fields = do
  node ← node_at cfg 2 fields
  port ← u16_at 3 fields
  octets ← octets_at 4 fields
  raw ← raw_from 5 fields
  Ok (events.Noise node port octets raw)

-- `down,NODE`
abbrev pub down_of : NetCfg → List (List ℕ) → Result Event TraceFault
down_of cfg fields = do
  node ← node_at cfg 2 fields
  Ok (events.Down node)

-- `up,NODE,OFF[,PORT:MODULE:TX:RX]`
abbrev pub up_of : NetCfg → List (List ℕ) → Result Event TraceFault
up_of cfg fields = do
  node ← node_at cfg 2 fields
  off ← offset_at 3 fields
  swaps ← swaps_said 4 [] (drop 3 fields)
  Ok (events.Up node off (record { items = swaps }))

-- `cut,LINK`
abbrev pub cut_of : NetCfg → List (List ℕ) → Result Event TraceFault
cut_of cfg fields = do
  link ← link_at cfg 2 fields
  Ok (events.Cut link)

-- `join,LINK,MS,SM`
abbrev pub join_of : NetCfg → List (List ℕ) → Result Event TraceFault
join_of cfg fields = do
  link ← link_at cfg 2 fields
  ms ← delay_at 3 fields
  sm ← delay_at 4 fields
  Ok (events.Join link ms sm)

-- the event that the fields of a line of a kind say
abbrev pub fields_of_kind : NetCfg → EventKind → List (List ℕ) → Result Event TraceFault
fields_of_kind cfg kinds.Pass fields = pass_of cfg fields
fields_of_kind cfg kinds.Tick fields = tick_of cfg fields
fields_of_kind cfg kinds.Sample fields = sample_of cfg fields
fields_of_kind cfg kinds.Depart fields = depart_of cfg fields
fields_of_kind cfg kinds.Arrive fields = arrive_of fields
fields_of_kind cfg kinds.Deliver fields = deliver_of fields
fields_of_kind cfg kinds.Noise fields = noise_of cfg fields
fields_of_kind cfg kinds.Down fields = down_of cfg fields
fields_of_kind cfg kinds.Up fields = up_of cfg fields
fields_of_kind cfg kinds.Cut fields = cut_of cfg fields
fields_of_kind cfg kinds.Join fields = join_of cfg fields

-- the same, if the kind is known and may have so many fields
abbrev pub counted_of : NetCfg → List (List ℕ) → Option EventKind → Result Event TraceFault
counted_of cfg fields None = Err Kind
counted_of cfg fields (Some kind) =
    if may_have kind (length fields) then fields_of_kind cfg kind fields else Err Fields

-- the event that the fields of a line say, or the first fault that they have
abbrev pub event_of : NetCfg → List (List ℕ) → Result Event TraceFault
event_of cfg fields = counted_of cfg fields (kind_of (field_of 1 fields))

-- the event that a line says, or the first fault that it has
abbrev pub event_read : NetCfg → List ℕ → Result Event TraceFault
event_read cfg line = if is_plain line then event_of cfg (parts_of line) else Err Fields

-- an event in which only the text of each name counts: the room past the end of a name is not part
-- of it
abbrev pub bare : Event → Event
bare (events.Up node off swaps) = events.Up node off (record { items = map bare_swap swaps.items })
bare e = e

-- the same for a reading
abbrev pub told : Result Event TraceFault → Result Event TraceFault
told (Ok e) = Ok (bare e)
told (Err fault) = Err fault

-- the same for a reading into a place, which then has this event
abbrev pub told_in : Result (Unit {0}) TraceFault → Event → Result Event TraceFault
told_in (Ok done) e = Ok (bare e)
told_in (Err fault) e = Err fault

-- an event that a line says can happen in the network
abbrev pub EventsCanCome : Type 0
EventsCanCome = (cfg : NetCfg) (line : List ℕ) (e : Event) → event_read cfg line ≡ Ok e → IsEventOf cfg e
