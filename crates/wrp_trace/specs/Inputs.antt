-- Input lines: what each says, and which fault comes first in a line that says nothing (this
-- project's profile). The kind is tried first, then the number of fields, then the fields from left
-- to right.
use Rattle.std.specs.Prelude.{◌≡◌, ℕ, ◌==◌, true, false, if◌then◌else◌, Option, None, Some, Result, Ok, Err, List, length}
use Rattle.wrp_base.specs.declared.fault.TraceFault.{TraceFault}
use Rattle.wrp_base.specs.declared.fault.TraceFault.TheVariants.{Fields, Kind}
use Rattle.wrp_base.specs.Lines.{parts_of}
use Rattle.wrp_node.specs.declared.interface.Input.{Input}
use Rattle.wrp_node.specs.declared.interface.Input.TheVariants as inputs
use Rattle.wrp_trace.specs.declared.kinds.InputKind.{InputKind}
use Rattle.wrp_trace.specs.declared.kinds.InputKind.TheVariants as kinds
use Rattle.wrp_trace.specs.Fields.{u16_at, u32_at, step_at, bits_at, octets_at, raw_from, stamp_from, message_at, port_at, module_at}
use Rattle.wrp_trace.specs.Kinds.{field_count, kind_of}
use Rattle.wrp_fields.specs.Reading.{◌>>=◌, field_of, is_plain}
use Rattle.wrp_trace.specs.LineSetting.{LineSetting}

-- `sample,N,BASE,BITS`
abbrev pub sample_of : List (List ℕ) → Result Input TraceFault
sample_of fields = do
  n ← u32_at 2 fields
  base ← step_at 3 fields
  bits ← bits_at 4 fields
  Ok (inputs.Sample n base bits)

-- `frame,PORT,HEX,RISING,FALLING,TAG,SAMPLE`
abbrev pub frame_of : LineSetting → List (List ℕ) → Result Input TraceFault
frame_of site fields = do
  port ← port_at site 2 fields
  octets ← octets_at 3 fields
  raw ← raw_from 4 fields
  sample ← u32_at 7 fields
  Ok (inputs.Frame port octets raw sample)

-- `sent,PORT,sync,SEQ,STAMP,SAMPLE`, and the same with `delay`
abbrev pub sent_of : LineSetting → List (List ℕ) → Result Input TraceFault
sent_of site fields = do
  port ← port_at site 2 fields
  delay ← message_at 3 fields
  seq ← u16_at 4 fields
  stamp ← stamp_from 5 fields
  Ok (inputs.Sent port seq delay stamp)

-- `up,PORT,MODULE`
abbrev pub up_of : LineSetting → List (List ℕ) → Result Input TraceFault
up_of site fields = do
  port ← port_at site 2 fields
  entry ← module_at site port 3 fields
  Ok (inputs.Carrier port true entry)

-- `down,PORT`
abbrev pub down_of : LineSetting → List (List ℕ) → Result Input TraceFault
down_of site fields = do
  port ← port_at site 2 fields
  Ok (inputs.Carrier port false None)

-- the input that the fields of a line of a kind say
abbrev pub fields_of_kind : LineSetting → InputKind → List (List ℕ) → Result Input TraceFault
fields_of_kind site kinds.Tick fields = Ok inputs.Tick
fields_of_kind site kinds.Sample fields = sample_of fields
fields_of_kind site kinds.Frame fields = frame_of site fields
fields_of_kind site kinds.Sent fields = sent_of site fields
fields_of_kind site kinds.Up fields = up_of site fields
fields_of_kind site kinds.Down fields = down_of site fields
fields_of_kind site kinds.Reset fields = Ok inputs.Reset

-- the same, if the kind is known and has so many fields
abbrev pub counted_of : LineSetting → List (List ℕ) → Option InputKind → Result Input TraceFault
counted_of site fields None = Err Kind
counted_of site fields (Some kind) =
    if length fields == field_count kind then fields_of_kind site kind fields else Err Fields

-- the input that the fields of a line say at a node, or the first fault that they have
abbrev pub input_of : LineSetting → List (List ℕ) → Result Input TraceFault
input_of site fields = counted_of site fields (kind_of site (field_of 1 fields))

-- the input that a line says at a node, or the first fault that it has
abbrev pub read_of : LineSetting → List ℕ → Result Input TraceFault
read_of site line = if is_plain line then input_of site (parts_of line) else Err Fields

-- an answer to a reading into a place: the place has what was read, or is unchanged after a fault
abbrev pub IsReadInto : {A : Type 0} → Result A TraceFault → Result Unit TraceFault → A → A → Type 0
IsReadInto (Ok read) answer old new = (answer ≡ Ok tt) × (new ≡ read)
IsReadInto (Err fault) answer old new = (answer ≡ Err fault) × (new ≡ old)
