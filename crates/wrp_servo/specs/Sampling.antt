-- What a sample does, step by step.
use Rattle.std.specs.Prelude.{ℕ, ℤ, pos, ◌^◌, ◌+◌, ◌-ℤ◌, ◌+ℤ◌, Bool, true, false, cond, not, ◌&&◌, nat_le, nat_lt, int_le, min, max, unsigned_abs, is_some, Option, None, Some}
use Rattle.wrp_base.specs.declared.link.ServoState.{ServoState}
use Rattle.wrp_base.specs.declared.link.ServoState.TheVariants.{SyncPhase, WaitStable, Track, Holdover}
use Rattle.wrp_phase.specs.Beat.{deglitched}
use Rattle.wrp_servo.specs.declared.machine.Measurement.{Measurement}
use Rattle.wrp_servo.specs.declared.phase_loop.PhaseLoop.{PhaseLoop}
use Rattle.wrp_servo.specs.declared.machine.Core.{Core}
use Rattle.wrp_servo.specs.declared.sampling.Heard.{Heard}
use Rattle.wrp_servo.specs.declared.sampling.Heard.TheVariants.{Ignored, Refused, Lost, Followed}
use Rattle.wrp_servo.specs.Following.{restarted, taken, approached, controlled, e_tau}
use Rattle.wrp_servo.specs.Table.{ended}

-- the state is HOLDOVER: TRACK was left, and the loop is frozen
abbrev pub is_holdover : ServoState → Bool
is_holdover Holdover = true
is_holdover _ = false

-- a sample is not ignored
abbrev pub hears : Core → Bool
hears v = v.signals.carrier && not (is_holdover v.state)

-- the tag of a sample that is good: it is newer than all before, and not glitched
abbrev pub good_tag : ℕ → ℕ → ℕ → ℕ → Option ℕ
good_tag last n base bits = cond (nat_lt last n) (deglitched base bits) None

-- a phase that is out of range
abbrev pub is_far : ℤ → Bool
is_far u = nat_le (2 ^ 60) (unsigned_abs u)

-- the size of x is at most the limit
abbrev pub is_within : ℤ → ℤ → Bool
is_within limit x = int_le (pos (unsigned_abs x)) limit

-- est, by the kept four
abbrev pub est_of : ℤ → Measurement → ℤ
est_of u k = ((k.four.t2 -ℤ k.four.t1) -ℤ k.delay) +ℤ (u -ℤ k.four.u2)

-- the residual r, by the kept four
abbrev pub residual : PhaseLoop → Measurement → ℤ
residual l k = est_of l.u k -ℤ e_tau l

-- the size of the residual, by the kept four, is at most the limit, in tau; without a four this is true
abbrev pub is_near : ℤ → PhaseLoop → Option Measurement → Bool
is_near limit l None = true
is_near limit l (Some k) = is_within limit (residual l k)

-- the loop's error is within its limit
abbrev pub is_calm : Core → Bool
is_calm v = is_within v.set.loop_tau (e_tau v.phase)

-- a good sample does not leave TRACK
abbrev pub stays_near : Core → Bool
stays_near v = is_calm v && is_near v.set.track_tau v.phase v.kept

-- a chain may start: there is none, the link is on, and the lease is fresh
abbrev pub may_start : Core → Bool
may_start v = not (is_some v.first) && (is_some v.signals.link && v.signals.lease)

-- the chain after a good sample: it ends if the detector is unlocked, and may start, with this sample as its first, if
-- it is locked
abbrev pub chained : Core → ℕ → Core
chained v n = cond v.phase.lock.locked (cond (may_start v) (record v { first = Some n }) v) (ended v)

-- what the state makes of a good sample
abbrev pub judged_in : Core → ServoState → Core
judged_in v SyncPhase = cond (int_le v.phase.s v.phase.goal && int_le v.phase.goal v.phase.s) (record v { state = WaitStable; calm = 0 }) v
judged_in v WaitStable = record v { calm = cond (is_calm v) (min v.set.stable (v.calm + 1)) 0 }
judged_in v Track = cond (stays_near v) v (ended v)
judged_in v _ = v

-- what the state, as it is once the chain was looked at, makes of a good sample
abbrev pub judged : Core → Core
judged v = judged_in v v.state

-- a good sample whose phase is out of range
abbrev pub lost : Core → Core
lost v = record (ended v) { phase = restarted (ended v).phase }

-- a good sample's tag goes to the loop, which gives u, and the tick of the last good sample is noted
abbrev pub with_tag : Core → ℕ → Core
with_tag v tag = record v { phase = taken v.phase tag; good_tick = v.ticks }

-- the loop's part of a good sample: the setpoint moves towards its goal by at most `phase_step` tau, and the controller and the
-- lock detector take the loop's error
abbrev pub followed : Core → Core
followed v = record v { phase = controlled (approached v.set.phase_step v.phase) }

-- a good sample once its tag was taken: lost if the phase is out of range; else the loop, the chain and the state act
-- on it, in this order
abbrev pub good : Core → ℕ → Core
good v n = cond (is_far v.phase.u) (lost v) (judged (chained (followed v) n))

-- a sample that is not ignored: one without a good tag does nothing more
abbrev pub heard : Core → ℕ → Option ℕ → Core
heard v n None = v
heard v n (Some tag) = good (with_tag v tag) n

-- the number of a sample that is not ignored is noted, if it is the greatest so far
abbrev pub with_last : Core → ℕ → Core
with_last v n = record v { last = max v.last n }

-- the servo after a sample with its number, base and beat bits: it is ignored without a carrier and in HOLDOVER
abbrev pub by_sample : Core → ℕ → ℕ → ℕ → Core
by_sample v n base bits = cond (hears v) (heard (with_last v n) n (good_tag v.last n base bits)) v

-- what became of a good sample once its tag was taken: Lost if the phase is out of range, else Followed
abbrev pub good_as : Core → Heard
good_as v = cond (is_far v.phase.u) Lost Followed

-- what became of a sample that is not ignored: Refused if it is glitched or not newer than all before; else it is good
abbrev pub tag_as : Core → Option ℕ → Heard
tag_as v None = Refused
tag_as v (Some tag) = good_as (with_tag v tag)

-- what became of a sample: Ignored without a carrier and in HOLDOVER; Refused if it is not good; Lost if it is good,
-- but its phase is out of range; else Followed
abbrev pub heard_as : Core → ℕ → ℕ → ℕ → Heard
heard_as v n base bits = cond (hears v) (tag_as v (good_tag v.last n base bits)) Ignored
