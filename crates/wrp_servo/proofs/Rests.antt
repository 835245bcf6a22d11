-- What the end of a chain, the judging of a good sample and the placing of a four leave as it is.
use Rattle.std.proofs.Common.{◌≡◌, refl, ◌∙◌, ℕ, ℤ, Bool, true, false, cond, ◌&&◌, nat_le, is_some, Option, None, Some}
use Rattle.std.specs.Prelude.{int_le}
use Rattle.wrp_base.specs.declared.link.Deltas.{Deltas}
use Rattle.wrp_base.specs.declared.link.ServoState.{ServoState}
use Rattle.wrp_base.specs.declared.link.ServoState.TheVariants.{Uninit, SyncTai, SyncNsec, SyncPhase, WaitStable, Track, Holdover}
use Rattle.wrp_base.specs.declared.measurement.Four.{Four}
use Rattle.wrp_phase.specs.Unwrapping.{Unwrapping}
use Rattle.wrp_pi.specs.Loop.{Loop}
use Rattle.wrp_servo.specs.declared.interface.ServoSet.{ServoSet}
use Rattle.wrp_servo.specs.declared.machine.Signals.{Signals}
use Rattle.wrp_servo.specs.declared.machine.Measurement.{Measurement}
use Rattle.wrp_servo.specs.declared.machine.Core.{Core}
use Rattle.wrp_servo.specs.Table.{is_past_gap, is_old, is_track, ended_in, ended, uninit_outside_holdover, ended_by_gap, ended_by_age, linked}
use Rattle.wrp_servo.specs.Sampling.{is_within, residual, stays_near, judged_in, chained, may_start, est_of}
use Rattle.wrp_servo.specs.Measuring.{is_in, x_of, delay_of, may_track, answered, placed, placed_in, aimed, by_period, settled, stepped, is_half, is_below_second}
use Rattle.wrp_servo.specs.Call.{ServoSetting}

-- all but the state, the chain, the four, the calm count, the tick at which TRACK was left, the goal and the lock detector
pub record Rest : Type 0 where
  pub set : ServoSet
  pub signals : Signals
  pub last : ℕ
  pub ticks : ℕ
  pub good_tick : ℕ
  pub unwrap : Unwrapping
  pub pi : Loop
  pub fresh : Bool
  pub u : ℤ
  pub s : ℤ
  pub dac : ℕ

abbrev pub rest : Core → Rest
rest v = record {
  set = v.set;
  signals = v.signals;
  last = v.last;
  ticks = v.ticks;
  good_tick = v.good_tick;
  unwrap = v.phase.unwrap;
  pi = v.phase.pi;
  fresh = v.phase.fresh;
  u = v.phase.u;
  s = v.phase.s;
  dac = v.phase.dac;
}

either-rest : (b : Bool) (v w : Core) (h : Rest) → rest v ≡ h → rest w ≡ h → rest (cond b v w) ≡ h
either-rest true v w h p q = p
either-rest false v w h p q = q

ended-rest : (v : Core) (s : ServoState) → rest (ended (record v { state = s })) ≡ rest v
ended-rest v Track = either-rest (is_some v.first) (ended_in (record v { state = Track }) Track) (record v { state = Track }) (rest v) refl refl
ended-rest v SyncNsec = either-rest (is_some v.first) (ended_in (record v { state = SyncNsec }) SyncNsec) (record v { state = SyncNsec }) (rest v) refl refl
ended-rest v SyncPhase = either-rest (is_some v.first) (ended_in (record v { state = SyncPhase }) SyncPhase) (record v { state = SyncPhase }) (rest v) refl refl
ended-rest v WaitStable = either-rest (is_some v.first) (ended_in (record v { state = WaitStable }) WaitStable) (record v { state = WaitStable }) (rest v) refl refl
ended-rest v Uninit = either-rest (is_some v.first) (ended_in (record v { state = Uninit }) Uninit) (record v { state = Uninit }) (rest v) refl refl
ended-rest v SyncTai = either-rest (is_some v.first) (ended_in (record v { state = SyncTai }) SyncTai) (record v { state = SyncTai }) (rest v) refl refl
ended-rest v Holdover = either-rest (is_some v.first) (ended_in (record v { state = Holdover }) Holdover) (record v { state = Holdover }) (rest v) refl refl

pub end-rest : (v : Core) → rest (ended v) ≡ rest v
end-rest v = ended-rest v v.state

pub uninit_outside_holdover-rest : (v : Core) (s : ServoState) → rest (uninit_outside_holdover (record v { state = s }) s) ≡ rest v
uninit_outside_holdover-rest v Holdover = refl
uninit_outside_holdover-rest v _ = refl

pub linked-rest : (v : Core) (s : ServoState) → rest (linked (record v { state = s }) s) ≡ rest v
linked-rest v Uninit = refl
linked-rest v _ = refl

pub judged-rest : (v : Core) (s : ServoState) → rest (judged_in (record v { state = s }) s) ≡ rest v
judged-rest v SyncPhase = either-rest (int_le v.phase.s v.phase.goal && int_le v.phase.goal v.phase.s) (record v { state = WaitStable; calm = 0 }) (record v { state = SyncPhase }) (rest v) refl refl
judged-rest v Track = either-rest (stays_near (record v { state = Track })) (record v { state = Track }) (ended (record v { state = Track })) (rest v) refl (ended-rest v Track)
judged-rest v _ = refl

pub chained-rest : (v : Core) (n : ℕ) → rest (chained v n) ≡ rest v
chained-rest v n =
    either-rest v.phase.lock.locked (cond (may_start v) (record v { first = Some n }) v) (ended v) (rest v)
    (either-rest (may_start v) (record v { first = Some n }) v (rest v) refl refl)
    (end-rest v)

ended_by_gap-rest : (v : Core) → rest (ended_by_gap v) ≡ rest v
ended_by_gap-rest v = either-rest (is_past_gap v) (ended v) v (rest v) (end-rest v) refl

ended_by_age-rest : (v : Core) → rest (ended_by_age v) ≡ rest v
ended_by_age-rest v = either-rest (is_track v.state && is_old v) (ended v) v (rest v) (end-rest v) refl

pub later-rest : (v : Core) → rest (ended_by_age (ended_by_gap v)) ≡ rest v
later-rest v = ended_by_age-rest (ended_by_gap v) ∙ ended_by_gap-rest v

by_period-rest : (v : Core) (k : Measurement) (est : ℤ) → rest (by_period v k est) ≡ rest v
by_period-rest v k est = either-rest (is_half v est) (aimed v k SyncPhase) (stepped v SyncNsec) (rest v) refl refl

settled-rest : (v : Core) (k : Measurement) (est : ℤ) → rest (settled v k est) ≡ rest v
settled-rest v k est =
    either-rest (may_track v k) (aimed v k Track) (cond (is_half v est) (aimed v k SyncPhase) (record v { state = SyncNsec })) (rest v) refl
    (either-rest (is_half v est) (aimed v k SyncPhase) (record v { state = SyncNsec }) (rest v) refl refl)

placed-rest : (v : Core) (k : Measurement) (est : ℤ) (s : ServoState) → rest (placed_in v k est s) ≡ rest v
placed-rest v k est SyncTai = either-rest (is_below_second est) (by_period v k est) (stepped v SyncTai) (rest v) (by_period-rest v k est) refl
placed-rest v k est SyncNsec = by_period-rest v k est
placed-rest v k est WaitStable = either-rest (nat_le v.set.stable v.calm) (settled v k est) v (rest v) (settled-rest v k est) refl
placed-rest v k est Track = either-rest (is_within v.set.track_tau (residual v.phase k)) (aimed v k Track) (ended v) (rest v) refl (end-rest v)
placed-rest v k est _ = refl

pub answered-rest : (x : ServoSetting) (v : Core) (f : Four) (y : ℤ) (on : Option Deltas) → rest (answered x.lo x.hi v f y on) ≡ rest v
answered-rest x v f y None = refl
answered-rest x v f y (Some d) =
    let k : Measurement = record { four = f; delay = delay_of d y } in
    either-rest (is_in x.lo x.hi (x_of d f)) (placed v k) (ended v) (rest v) (placed-rest (record v { kept = Some k }) k (est_of v.phase.u k) v.state) (end-rest v)
