-- The integer loop: a proportional and integral controller of a DAC, over the errors since its last restart (this project's profile).
use Rattle.std.specs.Prelude.{ℕ, ℤ, pos, ◌≡◌, ◌^◌, ◌+ℤ◌, ◌*ℤ◌, Bool, ◌&&◌, ◌||◌, int_lt, if◌then◌else◌, List, [], ◌∷◌}
use Rattle.std.specs.Int.{saturate_unsigned, w16}
use Rattle.wrp_base.specs.Division.{floor_quotient}
use Rattle.wrp_base.specs.Held.{held_within}

-- the loop's gains, proportional and integral in 1/4096, and its DAC value at rest
pub record Gains : Type 0 where
  pub kp : ℕ
  pub ki : ℕ
  pub bias : ℕ

-- the accumulated error with one more error, held within 2^40 on either side
abbrev pub raised : ℤ → ℤ → ℤ
raised accumulated e = held_within (pos (2 ^ 40)) (accumulated +ℤ e)

-- where that drives the DAC, before it is held within the DAC's range
abbrev pub drive : Gains → ℤ → ℤ → ℤ
drive gains raised_error e =
    floor_quotient (raised_error *ℤ pos gains.ki +ℤ e *ℤ pos gains.kp) (pos 4096) +ℤ pos gains.bias

-- the error would drive the DAC further out of its range
abbrev pub is_frozen : ℤ → ℤ → Bool
is_frozen z e = (int_lt (pos 65535) z && int_lt (pos 0) e) || (int_lt z (pos 0) && int_lt e (pos 0))

-- the accumulated error after one more error: it stays if the error would drive the DAC further out
abbrev pub next_accumulated : Gains → ℤ → ℤ → ℤ
next_accumulated gains before e =
    if is_frozen (drive gains (raised before e) e) e then before else raised before e

-- the accumulated error after these errors since a restart, newest first
abbrev pub accumulated : Gains → List ℤ → ℤ
accumulated gains [] = pos 0
accumulated gains (e ∷ before) = next_accumulated gains (accumulated gains before) e

-- the DAC value at an error after these errors: the drive, held within 0 to 65535
abbrev pub dac_value : Gains → List ℤ → ℤ → ℕ
dac_value gains errors e = saturate_unsigned w16 (drive gains (raised (accumulated gains errors) e) e)

-- what a loop is seen as: its gains and its accumulated error
pub record Loop : Type 0 where
  pub gains : Gains
  pub accumulated : ℤ

-- a loop at rest
abbrev pub rested : Gains → Loop
rested gains = record { gains = gains; accumulated = pos 0 }

-- a loop that took one more error
abbrev pub updated : Loop → ℤ → Loop
updated pi e = record { gains = pi.gains; accumulated = next_accumulated pi.gains pi.accumulated e }

-- the DAC value at that error: the drive, held within 0 to 65535
abbrev pub value_at : Loop → ℤ → ℕ
value_at pi e = saturate_unsigned w16 (drive pi.gains (raised pi.accumulated e) e)

-- the loop has taken these errors since its last restart, newest first
pub record StandsFor (pi : Loop) (errors : List ℤ) : Type 0 where
  pub accumulated : pi.accumulated ≡ accumulated pi.gains errors
