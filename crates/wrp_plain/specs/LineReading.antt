-- What the lines of a plain servo say: the first the settings and the true offset at the start, each later line an
-- event; and which fault comes first in one that says nothing. The first field is tried first, then the number of
-- fields, then the fields from left to right (this project's profile).
use Rattle.std.specs.Prelude.{ℕ, ℤ, pos, neg_ℤ, ◌^◌, ◌==◌, if◌then◌else◌, Option, None, Some, Result, Ok, Err, List, [], ◌∷◌, length, codes}
use Rattle.wrp_base.specs.declared.fault.TraceFault.{TraceFault}
use Rattle.wrp_base.specs.declared.fault.TraceFault.TheVariants.{Fields, Kind}
use Rattle.wrp_base.specs.Lines.{parts_of}
use Rattle.wrp_fields.specs.Fields.{number_at}
use Rattle.wrp_fields.specs.Numbers.{number_in}
use Rattle.wrp_fields.specs.Reading.{◌>>=◌, field_of, is_plain, number_or_fault}
use Rattle.wrp_plain.specs.declared.event.PlainEvent.{PlainEvent}
use Rattle.wrp_plain.specs.declared.event.PlainEvent.TheVariants as events
use Rattle.wrp_plain.specs.declared.settings.PlainStart.{PlainStart}
use Rattle.wrp_plain.specs.declared.lines.kinds.LineKind.{LineKind}
use Rattle.wrp_plain.specs.declared.lines.kinds.LineKind.TheVariants as kinds
use Rattle.wrp_plain.specs.LineKinds.{field_count, kind_of, same_word}

-- Fields

-- the number from least to greatest, which may be below 0, in the field of a place
abbrev pub signed_at : ℤ → ℤ → ℕ → List (List ℕ) → Result ℤ TraceFault
signed_at least greatest place fields =
    number_or_fault place (number_in least greatest (field_of place fields))

-- a number of at most this size, either sign
abbrev pub within_at : ℕ → ℕ → List (List ℕ) → Result ℤ TraceFault
within_at size place fields = signed_at (neg_ℤ (pos size)) (pos size) place fields

-- The first line

-- `param,RATE,ERR,LEAST,SPAN,DMAX,RING,STEP,OFF`
abbrev pub start_of : List (List ℕ) → Result PlainStart TraceFault
start_of fields = do
  rate ← number_at 0 (10 ^ 9) 2 fields
  err ← number_at 0 (10 ^ 9) 3 fields
  least ← signed_at (pos 0) (pos (10 ^ 15)) 4 fields
  span ← signed_at (pos 0) (pos (10 ^ 15)) 5 fields
  dmax ← signed_at (pos 1) (pos (10 ^ 18)) 6 fields
  ring ← number_at 1 64 7 fields
  step ← signed_at (pos 1) (pos (2 ^ 60)) 8 fields
  off ← within_at (2 ^ 62) 9 fields
  Ok (record {
    set = record { rate = rate; err = err; least = least; span = span; dmax = dmax; ring = ring; step = step };
    off = off;
  })

-- what the fields of the first line say, or the first fault that they have
abbrev pub first_of : List (List ℕ) → Result PlainStart TraceFault
first_of fields =
    if same_word (field_of 1 fields) (codes "param")
    then (if length fields == 9 then start_of fields else Err Fields)
    else Err Kind

-- what the first line says, or the first fault that it has
abbrev pub start_read : List ℕ → Result PlainStart TraceFault
start_read line = if is_plain line then first_of (parts_of line) else Err Fields

-- The later lines

-- `pass,DT,DRIFT`
abbrev pub pass_of : List (List ℕ) → Result PlainEvent TraceFault
pass_of fields = do
  dt ← signed_at (pos 1) (pos (10 ^ 18)) 2 fields
  drift ← within_at (2 ^ 60) 3 fields
  Ok (events.Pass dt drift)

-- `exch,SPAN,DMS,DSM,O2,O3,T1,T2,T3,T4`
abbrev pub exch_of : List (List ℕ) → Result PlainEvent TraceFault
exch_of fields = do
  span ← signed_at (pos 0) (pos (2 ^ 60)) 2 fields
  dms ← signed_at (pos 0) (pos (2 ^ 60)) 3 fields
  dsm ← signed_at (pos 0) (pos (2 ^ 60)) 4 fields
  o2 ← within_at (2 ^ 94) 5 fields
  o3 ← within_at (2 ^ 94) 6 fields
  t1 ← within_at (2 ^ 61) 7 fields
  t2 ← within_at (2 ^ 61) 8 fields
  t3 ← within_at (2 ^ 61) 9 fields
  t4 ← within_at (2 ^ 61) 10 fields
  Ok (events.Exch span dms dsm o2 o3 (t1 ∷ t2 ∷ t3 ∷ t4 ∷ []))

-- the event that the fields of a line of a kind say
abbrev pub fields_of_kind : LineKind → List (List ℕ) → Result PlainEvent TraceFault
fields_of_kind kinds.Pass fields = pass_of fields
fields_of_kind kinds.Tick fields = Ok events.Tick
fields_of_kind kinds.Exch fields = exch_of fields

-- the same, if the kind is known and has this many fields
abbrev pub counted_of : List (List ℕ) → Option LineKind → Result PlainEvent TraceFault
counted_of fields None = Err Kind
counted_of fields (Some kind) =
    if length fields == field_count kind then fields_of_kind kind fields else Err Fields

-- the event that the fields of a line say, or the first fault that they have
abbrev pub event_of : List (List ℕ) → Result PlainEvent TraceFault
event_of fields = counted_of fields (kind_of (field_of 1 fields))

-- the event that a line after the first says, or the first fault that it has
abbrev pub event_read : List ℕ → Result PlainEvent TraceFault
event_read line = if is_plain line then event_of (parts_of line) else Err Fields
