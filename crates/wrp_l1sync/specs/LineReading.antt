-- The lines of `l1sync`: what each says, and which fault comes first in one that says nothing (this
-- project's profile). The first field is tried first, then the number of fields, then the fields from left
-- to right. The first line says the limits of a pair of ends, and each later one an event.
use Rattle.std.specs.Prelude.{ℕ, pos, ◌≤◌, ◌==◌, if◌then◌else◌, Option, None, Some, Result, Ok, Err, List, length, codes}
use Rattle.wrp_base.specs.declared.fault.TraceFault.{TraceFault}
use Rattle.wrp_base.specs.declared.fault.TraceFault.TheVariants.{Fields, Kind}
use Rattle.wrp_base.specs.Lines.{parts_of}
use Rattle.wrp_base.specs.Ranges.{IsAmong}
use Rattle.wrp_fields.specs.Reading.{◌>>=◌, field_of, is_plain}
use Rattle.wrp_l1sync.specs.declared.event.L1Event.{L1Event}
use Rattle.wrp_l1sync.specs.declared.event.L1Event.TheVariants as event
use Rattle.wrp_l1sync.specs.declared.event.Limits.{Limits}
use Rattle.wrp_l1sync.specs.declared.lines.kinds.EventKind.{EventKind}
use Rattle.wrp_l1sync.specs.declared.lines.kinds.EventKind.TheVariants.{Pass, Tick, Enable, Disable, Own, Deliver}
use Rattle.wrp_l1sync.specs.LineFields.{ticks_at, span_at, life_at, message_at, end_at, bits_from}
use Rattle.wrp_l1sync.specs.LineKinds.{same_word, field_count, kind_of}

-- The first line

-- `param,TIMEOUT,INTERVAL,DMAX,LIFE`
abbrev pub limits_from : List (List ℕ) → Result Limits TraceFault
limits_from fields = do
  timeout ← ticks_at 2 fields
  interval ← ticks_at 3 fields
  dmax ← span_at 4 fields
  life ← life_at 5 fields
  Ok (record { timeout = timeout; interval = interval; dmax = dmax; life = life })

-- the limits that the fields of a line say, or the first fault that they have
abbrev pub limits_of : List (List ℕ) → Result Limits TraceFault
limits_of fields =
    if same_word (codes "param") (field_of 1 fields)
    then (if length fields == 5 then limits_from fields else Err Fields)
    else Err Kind

-- the limits that a line says, or the first fault that it has
abbrev pub limits_read : List ℕ → Result Limits TraceFault
limits_read line = if is_plain line then limits_of (parts_of line) else Err Fields

-- limits of a pair: a timeout and an interval of 1 to 10^6 ticks, a dmax of at least 1
pub record AreLimits (limits : Limits) : Type 0 where
  pub timeout : IsAmong 1 1_000_000 limits.timeout
  pub interval : IsAmong 1 1_000_000 limits.interval
  pub dmax : IsAmong 1 4_611_686_018_427_387_904 limits.dmax
  pub life : limits.life ≤ 4_611_686_018_427_387_904

-- Each later line

-- `pass,DT`
abbrev pub pass_of : List (List ℕ) → Result L1Event TraceFault
pass_of fields = do
  dt ← span_at 2 fields
  Ok (event.Pass (pos dt))

-- `tick,END`, `enable,END` and `disable,END`
abbrev pub end_event : (ℕ → L1Event) → List (List ℕ) → Result L1Event TraceFault
end_event kind fields = do
  number ← end_at 2 fields
  Ok (kind number)

-- `own,END,REQ,IS`
abbrev pub own_of : List (List ℕ) → Result L1Event TraceFault
own_of fields = do
  number ← end_at 2 fields
  message ← bits_from 3 fields
  Ok (event.Own number message)

-- `deliver,END,K`
abbrev pub deliver_of : List (List ℕ) → Result L1Event TraceFault
deliver_of fields = do
  number ← end_at 2 fields
  k ← message_at 3 fields
  Ok (event.Deliver number k)

-- the event that the fields of a line of a kind say
abbrev pub event_of_kind : EventKind → List (List ℕ) → Result L1Event TraceFault
event_of_kind Pass fields = pass_of fields
event_of_kind Tick fields = end_event event.Tick fields
event_of_kind Enable fields = end_event event.Enable fields
event_of_kind Disable fields = end_event event.Disable fields
event_of_kind Own fields = own_of fields
event_of_kind Deliver fields = deliver_of fields

-- the same, if the kind is known and has this many fields
abbrev pub counted_of : List (List ℕ) → Option EventKind → Result L1Event TraceFault
counted_of fields None = Err Kind
counted_of fields (Some kind) =
    if length fields == field_count kind then event_of_kind kind fields else Err Fields

-- the event that the fields of a line say, or the first fault that they have
abbrev pub event_of : List (List ℕ) → Result L1Event TraceFault
event_of fields = counted_of fields (kind_of (field_of 1 fields))

-- the event that a line says, or the first fault that it has
abbrev pub event_read : List ℕ → Result L1Event TraceFault
event_read line = if is_plain line then event_of (parts_of line) else Err Fields
