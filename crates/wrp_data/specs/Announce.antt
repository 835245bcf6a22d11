-- What a master port sends in its Announce: the fields are defined by IEEE 1588-2019, the suffix by the White Rabbit
-- Specification 2.0, and the values by this project's profile.
use Rattle.std.specs.Prelude.{ℕ, pos, ◌+◌, ◌*◌, ◌^◌, Bool, Option, if◌then◌else◌}
use Rattle.wrp_base.specs.declared.time.Ts.{Ts}
use Rattle.wrp_base.specs.declared.message.Body.{Body}
use Rattle.wrp_base.specs.declared.message.Body.TheVariants.{Announce}
use Rattle.wrp_data.specs.declared.datasets.DefaultDs.{DefaultDs}
use Rattle.wrp_data.specs.declared.datasets.WrPortDs.{WrPortDs}

-- the Timestamp of a message that carries no time
abbrev pub no_time : Ts
no_time = record { seconds = 0; nanos = 0 }

-- a clockQuality as one number: clockClass, clockAccuracy and offsetScaledLogVariance
abbrev pub clock_quality : ℕ → ℕ → ℕ → ℕ
clock_quality class accuracy variance = class * 2 ^ 24 + accuracy * 2 ^ 16 + variance

-- the clockQuality that is sent: the default class, an unknown accuracy, the greatest variance
abbrev pub quality_told : ℕ
quality_told = clock_quality 248 0xFE 0xFFFF

-- the value of both priorities that are sent
abbrev pub priority_told : ℕ
priority_told = 128

-- the timeSource INTERNAL_OSCILLATOR
abbrev pub internal_oscillator : ℕ
internal_oscillator = 0xA0

-- the body of an Announce: no time, currentUtcOffset 0, and the node's grandmaster and stepsRemoved
abbrev pub announce_body : DefaultDs → Option ℕ → Body
announce_body node suffix =
    Announce no_time (pos 0) priority_told quality_told priority_told node.gm node.steps internal_oscillator suffix

-- bit k of a number, if it is set
abbrev pub bit_where : ℕ → Bool → ℕ
bit_where k b = if b then 2 ^ k else 0

-- the wrFlags of a master: wrConfig 1, bit 2 if it is calibrated, bit 3 if its link is on
abbrev pub suffix_flags : WrPortDs → ℕ
suffix_flags port = 1 + bit_where 2 port.known + bit_where 3 port.on
