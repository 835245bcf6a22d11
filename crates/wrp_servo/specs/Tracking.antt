-- What enters TRACK (this project's profile).
use Rattle.std.specs.Prelude.{ℤ, Bool, true, false, ◌&&◌, nat_le, Option, None, Some}
use Rattle.wrp_base.specs.declared.link.Deltas.{Deltas}
use Rattle.wrp_base.specs.declared.link.ServoState.{ServoState}
use Rattle.wrp_base.specs.declared.link.ServoState.TheVariants.{WaitStable}
use Rattle.wrp_base.specs.declared.measurement.Four.{Four}
use Rattle.wrp_servo.specs.declared.machine.Core.{Core}
use Rattle.wrp_servo.specs.Measuring.{deltas_in_chain, is_in, x_of, delay_of, may_track}
use Rattle.wrp_servo.specs.Call.{Call, CallMeasured, ServoSetting}

-- the state is WAIT_STABLE, from which alone TRACK is entered
abbrev pub is_wait_stable : ServoState → Bool
is_wait_stable WaitStable = true
is_wait_stable _ = false

-- a measurement enters TRACK: in WAIT_STABLE, calm at `stable`, x in range, and r, e_tau and the four's age within their
-- limits
abbrev pub enters_by : ServoSetting → Core → Four → ℤ → Option Deltas → Bool
enters_by x v f y None = false
enters_by x v f y (Some d) =
    is_wait_stable v.state
    && (is_in x.lo x.hi (x_of d f)
    && (nat_le v.set.stable v.calm && may_track v (record { four = f; delay = delay_of d y })))

-- a call enters TRACK: only a measurement can, and only if there is a chain
abbrev pub enters : ServoSetting → Core → Call → Bool
enters x v (CallMeasured f y) = enters_by x v f y (deltas_in_chain v)
enters x v _ = false
