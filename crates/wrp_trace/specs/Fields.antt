-- The fields of a line: what each says, or its fault (this project's profile).
use Rattle.std.specs.Prelude.{ℕ, ℤ, ◌+◌, Bool, true, false, if◌then◌else◌, Option, None, Some, Result, Ok, List, codes}
use Rattle.arrayvec.specs.ArrayVec.{ArrayVec}
use Rattle.wrp_base.specs.declared.fault.TraceFault.{TraceFault}
use Rattle.wrp_base.specs.declared.link.Module.{Module}
use Rattle.wrp_base.specs.declared.time.Raw.{Raw}
use Rattle.wrp_base.specs.declared.time.Stamp.{Stamp}
use Rattle.wrp_caldb.specs.Name.{same_name}
use Rattle.wrp_fields.specs.Fields.{number_at}
use Rattle.wrp_fields.specs.Reading.{◌>>=◌, field_of, number_or_fault, name_or_fault}
use Rattle.wrp_trace.specs.Digits.{frame_of, bits_of}
use Rattle.wrp_trace.specs.Times.{time_of}
use Rattle.wrp_trace.specs.LineSetting.{LineSetting, has_port, named_at}

-- a number of 16 bits
abbrev pub u16_at : ℕ → List (List ℕ) → Result ℕ TraceFault
u16_at place fields = number_at 0 65_535 place fields

-- a number of 32 bits
abbrev pub u32_at : ℕ → List (List ℕ) → Result ℕ TraceFault
u32_at place fields = number_at 0 4_294_967_295 place fields

-- a place in the period, in detector steps
abbrev pub step_at : ℕ → List (List ℕ) → Result ℕ TraceFault
step_at place fields = number_at 0 16_383 place fields

-- a counter of whole periods
abbrev pub counter_at : ℕ → List (List ℕ) → Result ℕ TraceFault
counter_at place fields = number_at 1 9_223_372_036_854_775_807 place fields

-- the beat bits
abbrev pub bits_at : ℕ → List (List ℕ) → Result ℕ TraceFault
bits_at place fields = number_or_fault place (bits_of (field_of place fields))

-- the octets of a frame
abbrev pub octets_at : ℕ → List (List ℕ) → Result (ArrayVec ℕ) TraceFault
octets_at place fields = number_or_fault place (frame_of (field_of place fields))

-- the time of a stamp, in tau
abbrev pub time_at : ℕ → List (List ℕ) → Result ℤ TraceFault
time_at place fields = number_or_fault place (time_of (field_of place fields))

-- the raw stamp of a reception, in the fields from a place on
abbrev pub raw_from : ℕ → List (List ℕ) → Result Raw TraceFault
raw_from place fields = do
  rising ← counter_at place fields
  falling ← counter_at (place + 1) fields
  tag ← step_at (place + 2) fields
  Ok (record { rising = rising; falling = falling; tag = tag })

-- the stamp of a sending, in the fields from a place on
abbrev pub stamp_from : ℕ → List (List ℕ) → Result Stamp TraceFault
stamp_from place fields = do
  value ← time_at place fields
  sample ← u32_at (place + 1) fields
  Ok (record { value = value; sample = sample })

-- whether a sent message is a Delay_Req; else it is a Sync
abbrev pub message_of : List ℕ → Option Bool
message_of text =
    if same_name text (codes "sync") then Some false
    else if same_name text (codes "delay") then Some true
    else None

-- the message of a place
abbrev pub message_at : ℕ → List (List ℕ) → Result Bool TraceFault
message_at place fields = name_or_fault place (message_of (field_of place fields))

-- a port of the node
abbrev pub own_port : LineSetting → ℕ → ℕ → Result ℕ TraceFault
own_port site place port =
    name_or_fault place (if has_port site port then Some port else None)

-- the port in the field of a place: a number first, and then one of the node's
abbrev pub port_at : LineSetting → ℕ → List (List ℕ) → Result ℕ TraceFault
port_at site place fields = do
  port ← u16_at place fields
  own_port site place port

-- the module in the field of a place, at this port of the node
abbrev pub module_at : LineSetting → ℕ → ℕ → List (List ℕ) → Result (Option Module) TraceFault
module_at site port place fields = name_or_fault place (named_at site port (field_of place fields))
