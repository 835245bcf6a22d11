-- How large the numbers of a world are after a number of events.
use Rattle.std.proofs.Common.{ℕ, ℤ, ◌<◌, ◌^◌, arith, ◌≤ℤ◌}
use Rattle.wrp_plant.specs.Sizes.{IsTime, IsOff, IsDelay, IsTimeBy, IsOffBy, IsDelayBy, IsDueBy}
use Rattle.std.proofs.lemmas.Int.{ints}
use Rattle.wrp_base.specs.declared.time.Raw.{Raw}
use Rattle.wrp_node.specs.Parts.{FitsRaw}
use Rattle.wrp_course.specs.EventAt.{IsRaw}

pub off_size : (events : ℕ) (off : ℤ) → events < 2 ^ 32 → IsOffBy events off → IsOff off
off_size events off h k = omega arith

pub time_size : (events : ℕ) (t : ℤ) → events < 2 ^ 32 → IsTimeBy events t → IsTime t
time_size events t h k = omega arith

pub delay_size : (events : ℕ) (d : ℤ) → events < 2 ^ 32 → IsDelayBy events d → IsDelay d
delay_size events d h k = omega arith

pub due_size : (events : ℕ) (t : ℤ) → events < 2 ^ 32 → IsDueBy events t → IsTime t
due_size events t h k = omega arith

-- the raw stamp of an event is in the range that a node takes
pub raw_fits : (raw : Raw) → IsRaw raw → FitsRaw raw
raw_fits raw h = record {
  rising_least = omega (arith, h.rising.0);
  rising_most = omega (arith, h.rising.1);
  falling_least = omega (arith, h.falling.0);
  falling_most = omega (arith, h.falling.1);
  tag = omega (arith, h.tag);
}

pub never_later : (a : ℤ) → a ≤ℤ a
never_later a = omega (arith, ints)
