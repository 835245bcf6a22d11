-- Times on the wire: a reading of the clock as a Timestamp with the rest in the correctionField, and back (IEEE 1588-2019; tau are this project's profile).
use Rattle.std.specs.Prelude.{ℕ, ℤ, pos, ◌+◌, ◌*◌, ◌/◌, ◌%◌, ◌+ℤ◌, ◌-ℤ◌, ◌*ℤ◌}
use Rattle.std.specs.Int.{saturate_signed, w64}
use Rattle.wrp_base.specs.declared.time.Ts.{Ts}

-- the whole nanoseconds of a reading, in tau
abbrev pub nanoseconds_of : ℕ → ℕ
nanoseconds_of reading = reading / 65_536_000

-- the rest of a nanosecond, in units of the correctionField
abbrev pub rest_of : ℕ → ℕ
rest_of reading = (reading % 65_536_000) / 1_000

-- the Timestamp of a reading
abbrev pub timestamp_of : ℕ → Ts
timestamp_of reading =
    record { seconds = nanoseconds_of reading / 1_000_000_000; nanos = nanoseconds_of reading % 1_000_000_000 }

-- the time of a Timestamp, in tau
abbrev pub time_of : Ts → ℕ
time_of t = (t.seconds * 1_000_000_000 + t.nanos) * 65_536_000

-- a time with a correctionField added, in tau
abbrev pub later_by : Ts → ℤ → ℤ
later_by t correction = pos (time_of t) +ℤ (pos 1000 *ℤ correction)

-- a time with a correctionField taken away, in tau
abbrev pub earlier_by : Ts → ℤ → ℤ
earlier_by t correction = pos (time_of t) -ℤ (pos 1000 *ℤ correction)

-- a correctionField less the rest of a reading, held at the ends of its 64 bits
abbrev pub corrected_by : ℤ → ℕ → ℤ
corrected_by correction reading = saturate_signed w64 (correction -ℤ pos (rest_of reading))
