-- A sample of the phase detector: a base and 64 beat bits, of which the zeros are counted (this project's profile).
use Rattle.std.specs.Prelude.{ℕ, ◌+◌, ◌-◌, ◌*◌, ◌%◌, Bool, ◌||◌, nat_lt, if◌then◌else◌, Option, None, Some}
use Rattle.std.specs.Int.{bit_at, count_zeros, leading_zeros, trailing_ones, w64}
use Rattle.wrp_base.specs.declared.time.Clock.{Clock}
use Rattle.wrp_base.specs.Clock.{step_of, steps_of_period}

-- the beat bit at the place i of a sample, the most significant first
abbrev pub beat_bit : ℕ → ℕ → ℕ
beat_bit bits i = bit_at bits (63 - i)

-- a glitched sample has fewer than 8 leading zeros, or fewer than 8 trailing ones
abbrev pub is_glitched : ℕ → Bool
is_glitched bits = nat_lt (leading_zeros w64 bits) 8 || nat_lt (trailing_ones w64 bits) 8

-- the tag of a sample: its base and the number of its zero bits, round the steps of a period
abbrev pub tag_of : ℕ → ℕ → ℕ
tag_of base bits = (base + count_zeros w64 bits) % steps_of_period

-- what the detector reports of a sample: nothing of a glitched one
abbrev pub deglitched : ℕ → ℕ → Option ℕ
deglitched base bits = if is_glitched bits then None else Some (tag_of base bits)

-- the phase that a tag shows, in tau
abbrev pub phase_of : Clock → ℕ → ℕ
phase_of clock tag = step_of clock * tag
