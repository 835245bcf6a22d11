-- What a measurement does.
use Rattle.std.specs.Prelude.{ℤ, pos, ◌^◌, ◌/◌, ◌-◌, ◌+ℤ◌, ◌-ℤ◌, ◌*ℤ◌, Bool, cond, ◌&&◌, nat_le, int_lt, int_le, unsigned_abs, Option, None, Some}
use Rattle.std.specs.Option.{option_and_then}
use Rattle.wrp_base.specs.declared.time.Clock.{Clock}
use Rattle.wrp_base.specs.declared.link.Deltas.{Deltas}
use Rattle.wrp_base.specs.declared.link.ServoState.{ServoState}
use Rattle.wrp_base.specs.declared.link.ServoState.TheVariants.{SyncTai, SyncNsec, SyncPhase, WaitStable, Track}
use Rattle.wrp_base.specs.declared.measurement.Four.{Four}
use Rattle.wrp_base.specs.Clock.{period_of, periods_per_second, second}
use Rattle.wrp_base.specs.Division.{floor_quotient, trunc_quotient}
use Rattle.wrp_base.specs.Held.{held_within}
use Rattle.wrp_servo.specs.declared.machine.Measurement.{Measurement}
use Rattle.wrp_servo.specs.declared.machine.Core.{Core}
use Rattle.wrp_servo.specs.Table.{ended}
use Rattle.wrp_servo.specs.Sampling.{est_of, residual, is_within, is_calm}

-- the round trip of a four, at the slave's phase
abbrev pub mm_of : Four → ℤ
mm_of f = ((f.t2 -ℤ f.t1) -ℤ f.u2) +ℤ ((f.t4 -ℤ f.t3) +ℤ f.u3)

-- what the fibre takes of it both ways
abbrev pub x_of : Deltas → Four → ℤ
x_of d f = mm_of f -ℤ (((pos d.txm +ℤ pos d.rxs) +ℤ pos d.txs) +ℤ pos d.rxm)

-- the delay down, with the law's answer
abbrev pub delay_of : Deltas → ℤ → ℤ
delay_of d y = (pos d.txm +ℤ pos d.rxs) +ℤ y

-- half a period, in tau
abbrev pub half_period : Clock → ℤ
half_period clock = pos (period_of clock / 2)

-- a commanded number of periods
abbrev pub held_cycles : ℤ → ℤ
held_cycles cycles = held_within (pos (2 ^ 62)) cycles

-- the step of whole seconds, in periods
abbrev pub second_cycles : Clock → ℤ → ℤ
second_cycles clock est = held_cycles ((pos 0 -ℤ trunc_quotient est second) *ℤ pos (periods_per_second clock))

-- the step of whole periods
abbrev pub period_cycles : Clock → ℤ → ℤ
period_cycles clock est = held_cycles (pos 0 -ℤ floor_quotient (est +ℤ half_period clock) (pos (period_of clock)))

-- an own step ends the chain and leaves the state
abbrev pub stepped : Core → ServoState → Core
stepped v state = record v { state = state; first = None; kept = None }

-- the setpoint's goal is set, and a state entered
abbrev pub aimed : Core → Measurement → ServoState → Core
aimed v k state = record v { state = state; phase = record v.phase { goal = v.phase.s -ℤ residual v.phase k } }

-- est, in tau, is at most half a period either way: no step of whole periods is needed
abbrev pub is_half : Core → ℤ → Bool
is_half v est = is_within (half_period v.set.clock) est

-- below one second
abbrev pub is_below_second : ℤ → Bool
is_below_second est = int_lt (pos (unsigned_abs est)) second

-- a measurement in SYNC_NSEC, or in SYNC_TAI below one second: if est is within half a period the setpoint gets its
-- goal, and the state is SYNC_PHASE; else the clock is stepped by whole periods, which ends the chain, and the state is
-- SYNC_NSEC
abbrev pub by_period : Core → Measurement → ℤ → Core
by_period v k est = cond (is_half v est) (aimed v k SyncPhase) (stepped v SyncNsec)

-- TRACK may be entered
abbrev pub may_track : Core → Measurement → Bool
may_track v k =
    is_within v.set.track_tau (residual v.phase k) && (is_calm v && nat_le (v.ticks - k.four.tick) v.set.age)

-- a measurement in WAIT_STABLE after `stable` calm samples: TRACK if it may be entered; else SYNC_PHASE with a new
-- goal, if est is within half a period; else SYNC_NSEC, where the next measurement may step
abbrev pub settled : Core → Measurement → ℤ → Core
settled v k est = cond (may_track v k) (aimed v k Track) (cond (is_half v est) (aimed v k SyncPhase) (record v { state = SyncNsec }))

-- in TRACK
abbrev pub by_residual : Core → Measurement → Core
by_residual v k = cond (is_within v.set.track_tau (residual v.phase k)) (aimed v k Track) (ended v)

-- what the state makes of a four that is kept
abbrev pub placed_in : Core → Measurement → ℤ → ServoState → Core
placed_in v k est SyncTai = cond (is_below_second est) (by_period v k est) (stepped v SyncTai)
placed_in v k est SyncNsec = by_period v k est
placed_in v k est WaitStable = cond (nat_le v.set.stable v.calm) (settled v k est) v
placed_in v k est Track = by_residual v k
placed_in v k est _ = v

-- a measurement is kept in the place of the one before, and the state acts on its est, by the phase as it is now
abbrev pub placed : Core → Measurement → Core
placed v k = placed_in (record v { kept = Some k }) k (est_of v.phase.u k) v.state

-- a four with the delay down, by the law's answer
abbrev pub kept_of : Four → Deltas → ℤ → Measurement
kept_of f d y = record { four = f; delay = delay_of d y }

-- the deltas by which a four is measured: none if there is no chain
abbrev pub deltas_in_chain : Core → Option Deltas
deltas_in_chain v = option_and_then (λ _. v.signals.link) v.first

-- x is in the law's range
abbrev pub is_in : ℤ → ℤ → ℤ → Bool
is_in lo hi x = int_le lo x && int_le x hi

-- a measurement with the law's answer y, in tau: ignored without the link's deltas; kept if x is in the law's range, lo
-- to hi in tau; else the chain ends
abbrev pub answered : ℤ → ℤ → Core → Four → ℤ → Option Deltas → Core
answered lo hi v f y None = v
answered lo hi v f y (Some d) = cond (is_in lo hi (x_of d f)) (placed v (kept_of f d y)) (ended v)

-- the servo after a measurement: without a chain it is ignored
abbrev pub by_measured : ℤ → ℤ → Core → Four → ℤ → Core
by_measured lo hi v f y = answered lo hi v f y (deltas_in_chain v)

-- the periods of a step by whole periods: none if est is within half a period
abbrev pub step_by_period : Core → ℤ → ℤ
step_by_period v est = cond (is_half v est) (pos 0) (period_cycles v.set.clock est)

-- the periods by which a measurement steps the clock, by the state: SYNC_TAI steps whole seconds, or whole periods if
-- est is below one second; SYNC_NSEC steps whole periods; no other state steps
abbrev pub cycles_in : Core → ℤ → ServoState → ℤ
cycles_in v est SyncTai = cond (is_below_second est) (step_by_period v est) (second_cycles v.set.clock est)
cycles_in v est SyncNsec = step_by_period v est
cycles_in v est _ = pos 0

-- the periods that a measurement steps, by the link's deltas: 0 without them, or if x is out of the law's range
abbrev pub answered_cycles : ℤ → ℤ → Core → Four → ℤ → Option Deltas → ℤ
answered_cycles lo hi v f y None = pos 0
answered_cycles lo hi v f y (Some d) = cond (is_in lo hi (x_of d f)) (cycles_in v (est_of v.phase.u (kept_of f d y)) v.state) (pos 0)

-- the periods by which a measurement steps the clock: 0 for no step, negative if the slave's clock is ahead
abbrev pub cycles_of : ℤ → ℤ → Core → Four → ℤ → ℤ
cycles_of lo hi v f y = answered_cycles lo hi v f y (deltas_in_chain v)
