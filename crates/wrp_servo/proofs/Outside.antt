-- In a state other than TRACK and HOLDOVER no call leads to HOLDOVER.
use Rattle.std.proofs.Common.{◌≡◌, refl, ℕ, ℤ, Bool, true, false, cond, not, ◌&&◌, ◌||◌, nat_le, is_some, Option, None, Some}
use Rattle.std.specs.Prelude.{int_le}
use Rattle.wrp_base.specs.declared.link.Deltas.{Deltas}
use Rattle.wrp_base.specs.declared.link.ServoState.{ServoState}
use Rattle.wrp_base.specs.declared.link.ServoState.TheVariants.{Uninit, SyncTai, SyncNsec, SyncPhase, WaitStable, Track, Holdover}
use Rattle.wrp_base.specs.declared.measurement.Four.{Four}
use Rattle.wrp_servo.specs.declared.machine.Measurement.{Measurement}
use Rattle.wrp_servo.specs.declared.machine.Core.{Core}
use Rattle.wrp_servo.specs.Table.{is_track, is_past_gap, is_old, one_tick, ended, ended_in, uninit_outside_holdover, ended_by_gap, ended_by_age, by_tick, carrier_gone, with_link, with_lease, with_carrier, linked, restarted_outside_holdover}
use Rattle.wrp_servo.specs.Sampling.{hears, is_holdover, good_tag, is_far, with_tag, with_last, followed, judged, judged_in, chained, may_start, good, heard, lost, est_of, by_sample}
use Rattle.wrp_servo.specs.Measuring.{is_in, x_of, delay_of, may_track, answered, placed, placed_in, aimed, by_period, settled, stepped, is_half, is_below_second}
use Rattle.wrp_servo.specs.Call.{Call, CallSample, CallMeasured, CallTick, CallLease, CallLink, CallCarrier, CallReset, ServoSetting, after}

-- neither TRACK nor HOLDOVER
abbrev pub out : ServoState → Bool
out s = not (is_track s || is_holdover s)

low_of : (s : ServoState) → out s ≡ true → is_holdover s ≡ false
low_of Track h = absurd cc
low_of Holdover h = absurd cc
low_of _ h = refl

either-out : (b : Bool) (v w : Core) → out v.state ≡ true → out w.state ≡ true → out (cond b v w).state ≡ true
either-out true v w h k = h
either-out false v w h k = k

either-low : (b : Bool) (v w : Core) → is_holdover v.state ≡ false → is_holdover w.state ≡ false → is_holdover (cond b v w).state ≡ false
either-low true v w h k = h
either-low false v w h k = k

ended-out : (v : Core) (s : ServoState) → out s ≡ true → out (ended (record v { state = s })).state ≡ true
ended-out v Track h = absurd cc
ended-out v Holdover h = absurd cc
ended-out v Uninit h = either-out (is_some v.first) (ended_in (record v { state = Uninit }) Uninit) (record v { state = Uninit }) refl refl
ended-out v SyncTai h = either-out (is_some v.first) (ended_in (record v { state = SyncTai }) SyncTai) (record v { state = SyncTai }) refl refl
ended-out v SyncNsec h = either-out (is_some v.first) (ended_in (record v { state = SyncNsec }) SyncNsec) (record v { state = SyncNsec }) refl refl
ended-out v SyncPhase h = either-out (is_some v.first) (ended_in (record v { state = SyncPhase }) SyncPhase) (record v { state = SyncPhase }) refl refl
ended-out v WaitStable h = either-out (is_some v.first) (ended_in (record v { state = WaitStable }) WaitStable) (record v { state = WaitStable }) refl refl

uninit-out : (v : Core) (s : ServoState) → out s ≡ true → out (uninit_outside_holdover (record v { state = s }) s).state ≡ true
uninit-out v Holdover h = absurd cc
uninit-out v _ h = refl

linked-out : (v : Core) (s : ServoState) → out s ≡ true → out (linked (record v { state = s }) s).state ≡ true
linked-out v Uninit h = refl
linked-out v _ h = h

restarted-out : (v : Core) (s : ServoState) → out s ≡ true → out (restarted_outside_holdover (record v { state = s }) s).state ≡ true
restarted-out v Holdover h = absurd cc
restarted-out v _ h = h

gap-out : (v : Core) (s : ServoState) → out s ≡ true → out (ended_by_gap (record v { state = s })).state ≡ true
gap-out v s h = either-out (is_past_gap v) (ended (record v { state = s })) (record v { state = s }) (ended-out v s h) h

age-out : (v : Core) (s : ServoState) → out s ≡ true → out (ended_by_age (record v { state = s })).state ≡ true
age-out v s h = either-out (is_track s && is_old v) (ended (record v { state = s })) (record v { state = s }) (ended-out v s h) h

later-out : (v : Core) (s : ServoState) → out s ≡ true → out (ended_by_age (ended_by_gap (record v { state = s }))).state ≡ true
later-out v s h = age-out (ended_by_gap (record v { state = s })) (ended_by_gap (record v { state = s })).state (gap-out v s h)

tick-out : (v : Core) (s : ServoState) → out s ≡ true → out (by_tick (record v { state = s })).state ≡ true
tick-out v Track h = absurd cc
tick-out v Holdover h = absurd cc
tick-out v Uninit h = later-out (one_tick v) Uninit h
tick-out v SyncTai h = later-out (one_tick v) SyncTai h
tick-out v SyncNsec h = later-out (one_tick v) SyncNsec h
tick-out v SyncPhase h = later-out (one_tick v) SyncPhase h
tick-out v WaitStable h = later-out (one_tick v) WaitStable h

judged-out : (v : Core) (s : ServoState) → out s ≡ true → out (judged_in (record v { state = s }) s).state ≡ true
judged-out v Track h = absurd cc
judged-out v SyncPhase h =
    either-out (int_le v.phase.s v.phase.goal && int_le v.phase.goal v.phase.s) (record v { state = WaitStable; calm = 0 }) (record v { state = SyncPhase }) refl refl
judged-out v _ h = h

chained-out : (v : Core) (s : ServoState) (n : ℕ) → out s ≡ true → out (chained (record v { state = s }) n).state ≡ true
chained-out v s n h =
    either-out v.phase.lock.locked (cond (may_start v) (record v { state = s; first = Some n }) (record v { state = s })) (ended (record v { state = s }))
    (either-out (may_start v) (record v { state = s; first = Some n }) (record v { state = s }) h h)
    (ended-out v s h)

good-out : (v : Core) (s : ServoState) (n : ℕ) → out s ≡ true → out (good (record v { state = s }) n).state ≡ true
good-out v s n h =
    let c : Core = chained (followed (record v { state = s })) n in
    either-out (is_far v.phase.u) (lost (record v { state = s })) (judged c) (ended-out v s h) (judged-out c c.state (chained-out (followed v) s n h))

heard-out : (v : Core) (s : ServoState) (n : ℕ) (tag : Option ℕ) → out s ≡ true → out (heard (record v { state = s }) n tag).state ≡ true
heard-out v s n None h = h
heard-out v s n (Some tag) h = good-out (with_tag v tag) s n h

sample-out : (v : Core) (s : ServoState) (n base bits : ℕ) → out s ≡ true → out (by_sample (record v { state = s }) n base bits).state ≡ true
sample-out v s n base bits h =
    either-out (hears (record v { state = s })) (heard (with_last (record v { state = s }) n) n (good_tag v.last n base bits)) (record v { state = s })
    (heard-out (with_last v n) s n (good_tag v.last n base bits) h)
    h

by_period-low : (v : Core) (k : Measurement) (est : ℤ) → is_holdover (by_period v k est).state ≡ false
by_period-low v k est = either-low (is_half v est) (aimed v k SyncPhase) (stepped v SyncNsec) refl refl

placed-low : (v : Core) (k : Measurement) (est : ℤ) (s : ServoState) → out s ≡ true → is_holdover (placed_in (record v { state = s }) k est s).state ≡ false
placed-low v k est Track h = absurd cc
placed-low v k est Holdover h = absurd cc
placed-low v k est SyncTai h =
    let w : Core = record v { state = SyncTai } in
    either-low (is_below_second est) (by_period w k est) (stepped w SyncTai) (by_period-low w k est) refl
placed-low v k est SyncNsec h = by_period-low (record v { state = SyncNsec }) k est
placed-low v k est WaitStable h =
    let w : Core = record v { state = WaitStable } in
    either-low (nat_le v.set.stable v.calm) (settled w k est) w
    (either-low (may_track w k) (aimed w k Track) (cond (is_half w est) (aimed w k SyncPhase) (record w { state = SyncNsec })) refl
    (either-low (is_half w est) (aimed w k SyncPhase) (record w { state = SyncNsec }) refl refl))
    refl
placed-low v k est Uninit h = refl
placed-low v k est SyncPhase h = refl

answered-low : (x : ServoSetting) (v : Core) (s : ServoState) (f : Four) (y : ℤ) (on : Option Deltas) → out s ≡ true → is_holdover (answered x.lo x.hi (record v { state = s }) f y on).state ≡ false
answered-low x v s f y None h = low_of s h
answered-low x v s f y (Some d) h =
    let k : Measurement = record { four = f; delay = delay_of d y } in
    let w : Core = record v { state = s } in
    either-low (is_in x.lo x.hi (x_of d f)) (placed w k) (ended w)
    (placed-low (record v { kept = Some k }) k (est_of v.phase.u k) s h)
    (low_of (ended w).state (ended-out v s h))

measured-low : (x : ServoSetting) (v : Core) (s : ServoState) (first : Option ℕ) (f : Four) (y : ℤ) → out s ≡ true → is_holdover (after x (record v { state = s; first = first }) (CallMeasured f y)).state ≡ false
measured-low x v s None f y h = low_of s h
measured-low x v s (Some m) f y h = answered-low x (record v { first = Some m }) s f y v.signals.link h

pub call-low : (x : ServoSetting) (v : Core) (s : ServoState) (first : Option ℕ) (call : Call) → out s ≡ true → is_holdover (after x (record v { state = s; first = first }) call).state ≡ false
call-low x v s first (CallMeasured f y) h = measured-low x v s first f y h
call-low x v s first (CallSample n base bits) h = low_of (after x (record v { state = s; first = first }) (CallSample n base bits)).state (sample-out (record v { first = first }) s n base bits h)
call-low x v s first CallTick h = low_of (after x (record v { state = s; first = first }) CallTick).state (tick-out (record v { first = first }) s h)
call-low x v s first (CallLease true) h = low_of s h
call-low x v s first (CallLease false) h = low_of (after x (record v { state = s; first = first }) (CallLease false)).state (ended-out (with_lease (record v { first = first }) false) s h)
call-low x v s first (CallLink (Some d)) h = low_of (after x (record v { state = s; first = first }) (CallLink (Some d))).state (linked-out (with_link (record v { first = first }) (Some d)) s h)
call-low x v s first (CallLink None) h =
    let w : Core = ended (with_link (record v { state = s; first = first }) None) in
    low_of (after x (record v { state = s; first = first }) (CallLink None)).state (uninit-out w w.state (ended-out (with_link (record v { first = first }) None) s h))
call-low x v s first (CallCarrier true) h = low_of (after x (record v { state = s; first = first }) (CallCarrier true)).state (restarted-out (with_carrier (record v { first = first }) true) s h)
call-low x v s first (CallCarrier false) h =
    let w : Core = ended (carrier_gone (record v { state = s; first = first })) in
    low_of (after x (record v { state = s; first = first }) (CallCarrier false)).state (uninit-out w w.state (ended-out (carrier_gone (record v { first = first })) s h))
call-low x v s first CallReset h = refl
