-- The calls that leave TRACK while there is a chain, all causes in one.
use Rattle.std.proofs.Common.{ℕ, ℤ, Bool, true, false, not, ◌&&◌, ◌||◌, is_some, Option, None, Some}
use Rattle.wrp_base.specs.declared.link.Deltas.{Deltas}
use Rattle.wrp_base.specs.declared.measurement.Four.{Four}
use Rattle.wrp_servo.specs.declared.machine.Core.{Core}
use Rattle.wrp_servo.specs.Table.{is_past_gap, is_old, one_tick}
use Rattle.wrp_servo.specs.Sampling.{hears, good_tag, is_far, is_calm, is_near, is_within, residual, with_tag, followed}
use Rattle.wrp_servo.specs.Measuring.{deltas_in_chain, is_in, x_of, delay_of}
use Rattle.wrp_servo.specs.Call.{Call, CallSample, CallMeasured, CallTick, CallLease, CallLink, CallCarrier, CallReset, ServoSetting}

-- a good sample leaves TRACK: its phase is out of range, the detector is unlocked after it, or e_tau or r is past its limit
abbrev pub leaves_at : Core → Option ℕ → Bool
leaves_at v None = false
leaves_at v (Some tag) =
    is_far (with_tag v tag).phase.u || (not (followed (with_tag v tag)).phase.lock.locked
    || (not (is_calm (followed (with_tag v tag))) || not (is_near v.set.track_tau (followed (with_tag v tag)).phase v.kept)))

-- a measurement leaves TRACK: x is out of the law's range, or r past its limit
abbrev pub leaves_by : ServoSetting → Core → Four → ℤ → Option Deltas → Bool
leaves_by x v f y None = false
leaves_by x v f y (Some d) = not (is_in x.lo x.hi (x_of d f)) || not (is_within v.set.track_tau (residual v.phase (record { four = f; delay = delay_of d y })))

-- a call leaves TRACK
abbrev pub leaves : ServoSetting → Core → Call → Bool
leaves x v (CallSample n base bits) = hears v && leaves_at v (good_tag v.last n base bits)
leaves x v (CallMeasured f y) = leaves_by x v f y (deltas_in_chain v)
leaves x v CallTick = is_past_gap (one_tick v) || is_old (one_tick v)
leaves x v (CallLease fresh) = not fresh
leaves x v (CallLink on) = not (is_some on)
leaves x v (CallCarrier up) = not up
leaves x v CallReset = true
