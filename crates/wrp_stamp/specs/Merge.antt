-- Merging: a receive stamp as one reading of the local clock, from two counters of whole periods and a phase tag (this project's profile).
use Rattle.std.specs.Prelude.{ℕ, ◌+◌, ◌-◌, ◌*◌, ◌/◌, ◌%◌, nat_lt, if◌then◌else◌, Option}
use Rattle.std.specs.Option.{option_map_or}
use Rattle.wrp_base.specs.declared.link.Module.{Module}
use Rattle.wrp_base.specs.declared.time.Clock.{Clock}
use Rattle.wrp_base.specs.declared.time.Raw.{Raw}
use Rattle.wrp_base.specs.Clock.{period_of, step_of, steps_of_period}

-- a quarter of the period, in tau
abbrev pub quarter_of : Clock → ℕ
quarter_of clock = period_of clock / 4

-- the place in the period, in tau, that a tag shows: it is counted from the transition, where the counters change over
abbrev pub place_of : Clock → ℕ → ℕ → ℕ
place_of clock tag transition = step_of clock * ((tag + steps_of_period - transition) % steps_of_period)

-- the whole periods at that place: the rising counter's in the two middle quarters, the falling counter's in the first quarter, and one less in the last
abbrev pub periods_at : Clock → Raw → ℕ → ℕ
periods_at clock raw place =
    if nat_lt place (quarter_of clock) then raw.falling
    else (if nat_lt place (3 * quarter_of clock) then raw.rising else raw.falling - 1)

-- the reading that the raw stamp shows, in tau
abbrev pub merged : Clock → Raw → ℕ → ℕ
merged clock raw transition =
    let place = place_of clock raw.tag transition in
    periods_at clock raw place * period_of clock + place

-- the tag at which the counters change over with this module, in detector steps; 0 for a module that is not listed
abbrev pub transition_of : Option Module → ℕ
transition_of entry = option_map_or (λ m. m.transition) entry 0
