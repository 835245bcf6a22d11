-- The chain of good samples: which call starts it, which one ends it, and what leaves TRACK alone (this project's
-- profile). Each cause is judged by what the servo holds before the call.
use Rattle.std.specs.Prelude.{ℕ, ℤ, Bool, true, false, not, ◌&&◌, ◌||◌, is_some, Option, None, Some}
use Rattle.wrp_base.specs.declared.link.Deltas.{Deltas}
use Rattle.wrp_base.specs.declared.link.ServoState.{ServoState}
use Rattle.wrp_base.specs.declared.link.ServoState.TheVariants.{SyncTai, SyncNsec}
use Rattle.wrp_base.specs.declared.measurement.Four.{Four}
use Rattle.wrp_servo.specs.declared.machine.Core.{Core}
use Rattle.wrp_servo.specs.Table.{is_track, is_past_gap, is_old, one_tick}
use Rattle.wrp_servo.specs.Sampling.{hears, is_holdover, good_tag, is_far, is_calm, is_near, is_within, residual, with_tag, followed, est_of}
use Rattle.wrp_servo.specs.Measuring.{is_in, x_of, delay_of, is_half, is_below_second}
use Rattle.wrp_servo.specs.Call.{Call, CallSample, CallMeasured, CallTick, CallLease, CallLink, CallCarrier, CallReset, ServoSetting}

-- ---- causes that hold in every state

-- a good sample out of range, or one that leaves the detector unlocked
abbrev pub unlocks : Core → Option ℕ → Bool
unlocks v None = false
unlocks v (Some tag) = is_far (with_tag v tag).phase.u || not (followed (with_tag v tag)).phase.lock.locked

-- a measurement out of the law's range
abbrev pub is_outside : ServoSetting → Four → Option Deltas → Bool
is_outside x f None = false
is_outside x f (Some d) = not (is_in x.lo x.hi (x_of d f))

-- a measurement that commands a step
abbrev pub steps_in : Core → ℤ → ServoState → Bool
steps_in v est SyncTai = not (is_below_second est && is_half v est)
steps_in v est SyncNsec = not (is_half v est)
steps_in v est _ = false

-- a measurement that commands a step: the link's deltas are known, x is in the law's range, and est is too large for the state
abbrev pub steps : ServoSetting → Core → Four → ℤ → Option Deltas → Bool
steps x v f y None = false
steps x v f y (Some d) = is_in x.lo x.hi (x_of d f) && steps_in v (est_of v.phase.u (record { four = f; delay = delay_of d y })) v.state

-- ---- causes that leave TRACK alone

-- a good sample whose loop error or residual is past its limit
abbrev pub strays : Core → Option ℕ → Bool
strays v None = false
strays v (Some tag) = not (is_calm (followed (with_tag v tag))) || not (is_near v.set.track_tau (followed (with_tag v tag)).phase v.kept)

-- a measurement whose residual is past its limit
abbrev pub strays_by : ServoSetting → Core → Four → ℤ → Option Deltas → Bool
strays_by x v f y None = false
strays_by x v f y (Some d) = not (is_within v.set.track_tau (residual v.phase (record { four = f; delay = delay_of d y })))

-- a call ends the chain whatever the state
abbrev pub ends : ServoSetting → Core → Call → Bool
ends x v (CallSample n base bits) = hears v && unlocks v (good_tag v.last n base bits)
ends x v (CallMeasured f y) = is_outside x f v.signals.link || steps x v f y v.signals.link
ends x v CallTick = not (is_holdover v.state) && is_past_gap (one_tick v)
ends x v (CallLease fresh) = not fresh
ends x v (CallLink on) = not (is_some on)
ends x v (CallCarrier up) = not up
ends x v CallReset = true

-- a call leaves TRACK by a cause of its own
abbrev pub strays_at : ServoSetting → Core → Call → Bool
strays_at x v (CallSample n base bits) = hears v && strays v (good_tag v.last n base bits)
strays_at x v (CallMeasured f y) = strays_by x v f y v.signals.link
strays_at x v CallTick = is_old (one_tick v)
strays_at x v _ = false

-- a call starts a chain: a good sample that leaves the detector locked, with the link on and the lease fresh
abbrev pub starts_by : Core → Option ℕ → Bool
starts_by v None = false
starts_by v (Some tag) =
    not (is_far (with_tag v tag).phase.u)
    && ((followed (with_tag v tag)).phase.lock.locked && (is_some v.signals.link && v.signals.lease))

-- a call starts a chain: a sample that is not ignored and whose tag starts one; no other kind of call does
abbrev pub starts : ServoSetting → Core → Call → Bool
starts x v (CallSample n base bits) = hears v && starts_by v (good_tag v.last n base bits)
starts x v _ = false

-- a call ends the chain: whatever the state, or by leaving TRACK
abbrev pub ends_chain : ServoSetting → Core → Call → Bool
ends_chain x v call = ends x v call || (is_track v.state && strays_at x v call)
