-- The ranges of the numbers of an event, as far as it hands them on to a node (this project's profile).
use Rattle.std.specs.Prelude.{ℕ, ◌≤◌, ◌<◌, ◌^◌, List, length}
use Rattle.wrp_base.specs.Octets.{AreOctets}
use Rattle.wrp_course.specs.declared.event.Event.{Event}
use Rattle.wrp_course.specs.declared.event.Event.TheVariants.{Sample, Depart, Arrive, Noise}
use Rattle.wrp_course.specs.EventAt.{IsRaw, IsTime}

-- octets that fit in a frame
pub record FitsFrame (octets : List ℕ) : Type 0 where
  pub each : AreOctets octets
  pub few : length octets ≤ 256

-- the numbers that an event hands on are in the ranges of its line
abbrev pub IsRanged : Event → Type 0
IsRanged (Sample n base bits) = (base ≤ 16_383) × (bits < 2 ^ 64)
IsRanged (Depart n p stamp) = IsTime stamp
IsRanged (Arrive i raw) = IsRaw raw
IsRanged (Noise n p octets raw) = FitsFrame octets.items × IsRaw raw
IsRanged _ = Unit {0}
