-- The fields of the lines of `l1sync`: what each says, or its fault (this project's profile).
use Rattle.std.specs.Prelude.{ℕ, ◌+◌, if◌then◌else◌, Option, None, Some, Result, Ok, List, codes}
use Rattle.wrp_base.specs.declared.fault.TraceFault.{TraceFault}
use Rattle.wrp_fields.specs.Fields.{number_at}
use Rattle.wrp_fields.specs.Reading.{◌>>=◌, field_of, name_or_fault}
use Rattle.wrp_l1sync.specs.declared.message.L1Msg.{L1Msg}
use Rattle.wrp_l1sync.specs.LineKinds.{same_word}

-- a number of ticks: 1 to 10^6
abbrev pub ticks_at : ℕ → List (List ℕ) → Result ℕ TraceFault
ticks_at place fields = number_at 1 1_000_000 place fields

-- a time that passes, in tau: 1 to 2^62
abbrev pub span_at : ℕ → List (List ℕ) → Result ℕ TraceFault
span_at place fields = number_at 1 4_611_686_018_427_387_904 place fields

-- how long a message may be on its way, in tau: 0 to 2^62
abbrev pub life_at : ℕ → List (List ℕ) → Result ℕ TraceFault
life_at place fields = number_at 0 4_611_686_018_427_387_904 place fields

-- three bits: 0 to 7
abbrev pub bits_at : ℕ → List (List ℕ) → Result ℕ TraceFault
bits_at place fields = number_at 0 7 place fields

-- the number of a message: one of 32 bits
abbrev pub message_at : ℕ → List (List ℕ) → Result ℕ TraceFault
message_at place fields = number_at 0 4_294_967_295 place fields

-- the number of the end that a text names: `a` is 0, `b` is 1
abbrev pub end_named : List ℕ → Option ℕ
end_named text =
    if same_word text (codes "a") then Some 0 else if same_word text (codes "b") then Some 1 else None

-- the end in the field of a place
abbrev pub end_at : ℕ → List (List ℕ) → Result ℕ TraceFault
end_at place fields = name_or_fault place (end_named (field_of place fields))

-- what is required and what holds, in the fields from a place on
abbrev pub bits_from : ℕ → List (List ℕ) → Result L1Msg TraceFault
bits_from place fields = do
  req ← bits_at place fields
  holding ← bits_at (place + 1) fields
  Ok (record { req = req; is = holding })
