-- One call: TRACK is entered and left exactly when the definitions say.
use Rattle.std.proofs.Common.{◌≡◌, refl, ◌∙◌, sym, ℕ, ℤ, Bool, true, false, cond, not, ◌&&◌, ◌||◌, nat_le, ◌-◌, is_some, Option, None, Some, List, [], ◌∷◌, subst}
use Rattle.std.specs.Prelude.{int_le}
use Rattle.wrp_base.specs.declared.link.Deltas.{Deltas}
use Rattle.wrp_base.specs.declared.link.ServoState.{ServoState}
use Rattle.wrp_base.specs.declared.link.ServoState.TheVariants.{Uninit, SyncTai, SyncNsec, SyncPhase, WaitStable, Track, Holdover}
use Rattle.wrp_base.specs.declared.measurement.Four.{Four}
use Rattle.wrp_servo.specs.declared.machine.Measurement.{Measurement}
use Rattle.wrp_servo.specs.declared.machine.Core.{Core}
use Rattle.wrp_servo.specs.Following.{restarted}
use Rattle.wrp_servo.specs.Table.{is_track, is_past_gap, is_old, one_tick, ended, uninit_outside_holdover, ended_by_gap, ended_by_age, by_tick, holdover_ticked, carrier_gone, with_link, with_lease, with_carrier, linked, restarted_outside_holdover}
use Rattle.wrp_servo.specs.Sampling.{hears, good_tag, is_far, is_calm, is_near, is_within, residual, with_tag, with_last, followed, judged, judged_in, chained, may_start, good, heard, lost, est_of, by_sample}
use Rattle.wrp_servo.specs.Measuring.{is_in, x_of, delay_of, may_track, answered, placed, placed_in, aimed, by_period, settled, stepped, is_half, is_below_second}
use Rattle.wrp_servo.specs.Call.{Call, CallSample, CallMeasured, CallTick, CallLease, CallLink, CallCarrier, CallReset, ServoSetting, after, run}
use Rattle.wrp_servo.specs.Tracking.{enters, enters_by, is_wait_stable}
use Rattle.wrp_servo.proofs.Leaving.{leaves, leaves_at, leaves_by}

-- ---- in TRACK, with a chain whose first sample is m

abbrev pub tracker : Core → ℕ → Core
tracker v m = record v { state = Track; first = Some m }

-- what a servo is after a call: its state is TRACK exactly when `r` says so, and then there is a chain
pub record Ends (v : Core) (r : Bool) : Type 0 where
  pub track : is_track v.state ≡ r
  pub chain : is_track v.state ≡ true → is_some v.first ≡ true

tick-track : (v : Core) (m : ℕ) → Ends (by_tick (tracker v m)) (not (is_past_gap (one_tick (tracker v m)) || is_old (one_tick (tracker v m))))
tick-track v m =
    let w : Core = one_tick (tracker v m) in
    elim (is_past_gap w) as (λ g. Ends (ended_by_age (cond g (ended w) w)) (not (g || is_old w))) [
      | true ↦ record { track = refl; chain = λ e. absurd (cc) }
      | false ↦ elim (is_old w) as (λ o. Ends (cond (true && o) (ended w) w) (not o)) [
        | true ↦ record { track = refl; chain = λ e. absurd (cc) }
        | false ↦ record { track = refl; chain = λ e. refl }
      ]
    ]

good-track : (v : Core) (m n tag : ℕ) → Ends (good (with_tag (with_last (tracker v m) n) tag) n) (not (leaves_at (tracker v m) (Some tag)))
good-track v m n tag =
    let w : Core = with_tag (with_last (tracker v m) n) tag in
    let f : Core = followed w in
    let rest : Bool = not (is_calm f) || not (is_near f.set.track_tau f.phase f.kept) in
    elim (is_far w.phase.u) as (λ b. Ends (cond b (lost w) (judged (chained f n))) (not (b || (not f.phase.lock.locked || rest)))) [
      | true ↦ record { track = refl; chain = λ e. cc }
      | false ↦ elim f.phase.lock.locked as (λ l. Ends (judged (cond l (cond (may_start f) (record f { first = Some n }) f) (ended f))) (not (not l || rest))) [
        | false ↦ record { track = refl; chain = λ e. cc }
        | true ↦ elim (is_calm f) as (λ c. Ends (cond (c && is_near f.set.track_tau f.phase f.kept) f (ended f)) (not (not c || not (is_near f.set.track_tau f.phase f.kept)))) [
          | false ↦ record { track = refl; chain = λ e. cc }
          | true ↦ elim (is_near f.set.track_tau f.phase f.kept) as (λ c. Ends (cond c f (ended f)) (not (not c))) [
            | false ↦ record { track = refl; chain = λ e. cc }
            | true ↦ record { track = refl; chain = λ e. refl }
          ]
        ]
      ]
    ]

heard-track : (v : Core) (m n : ℕ) (tag : Option ℕ) → Ends (heard (with_last (tracker v m) n) n tag) (not (leaves_at (tracker v m) tag))
heard-track v m n None = record { track = refl; chain = λ e. refl }
heard-track v m n (Some tag) = good-track v m n tag

sample-track : (v : Core) (m n base bits : ℕ) → Ends (by_sample (tracker v m) n base bits) (not (hears (tracker v m) && leaves_at (tracker v m) (good_tag v.last n base bits)))
sample-track v m n base bits =
    elim v.signals.carrier as (λ b. Ends (cond (b && true) (heard (with_last (tracker v m) n) n (good_tag v.last n base bits)) (tracker v m)) (not ((b && true) && leaves_at (tracker v m) (good_tag v.last n base bits)))) [
      | true ↦ heard-track v m n (good_tag v.last n base bits)
      | false ↦ record { track = refl; chain = λ e. refl }
    ]

measured-track : (x : ServoSetting) (v : Core) (m : ℕ) (f : Four) (y : ℤ) (on : Option Deltas) → Ends (answered x.lo x.hi (tracker v m) f y on) (not (leaves_by x (tracker v m) f y on))
measured-track x v m f y None = record { track = refl; chain = λ e. refl }
measured-track x v m f y (Some d) =
    let k : Measurement = record { four = f; delay = delay_of d y } in
    let w : Core = record (tracker v m) { kept = Some k } in
    elim (is_in x.lo x.hi (x_of d f)) as (λ b. Ends (cond b (placed (tracker v m) k) (ended (tracker v m))) (not (not b || not (is_within v.set.track_tau (residual v.phase k))))) [
      | false ↦ record { track = refl; chain = λ e. cc }
      | true ↦ elim (is_within v.set.track_tau (residual v.phase k)) as (λ b. Ends (cond b (aimed w k Track) (ended w)) (not (not b))) [
        | false ↦ record { track = refl; chain = λ e. cc }
        | true ↦ record { track = refl; chain = λ e. refl }
      ]
    ]

-- a call in TRACK leaves it exactly when the definition says
pub call-track : (x : ServoSetting) (v : Core) (m : ℕ) (call : Call) → Ends (after x (tracker v m) call) (not (leaves x (tracker v m) call))
call-track x v m (CallSample n base bits) = sample-track v m n base bits
call-track x v m (CallMeasured f y) = measured-track x v m f y v.signals.link
call-track x v m CallTick = tick-track v m
call-track x v m (CallLease true) = record { track = refl; chain = λ e. refl }
call-track x v m (CallLease false) = record { track = refl; chain = λ e. cc }
call-track x v m (CallLink None) = record { track = refl; chain = λ e. cc }
call-track x v m (CallLink (Some d)) = record { track = refl; chain = λ e. refl }
call-track x v m (CallCarrier true) = record { track = refl; chain = λ e. refl }
call-track x v m (CallCarrier false) = record { track = refl; chain = λ e. cc }
call-track x v m CallReset = record { track = refl; chain = λ e. cc }

-- ---- outside TRACK

other : (v : Core) → is_track v.state ≡ false → Ends v false
other v h = record { track = h; chain = λ e. cc }

pub ended-other : (v : Core) (s : ServoState) → is_track s ≡ false → is_track (ended (record v { state = s })).state ≡ false
ended-other v Track h = cc
ended-other v Uninit h = elim (is_some v.first) as (λ b. is_track (cond b (record v { state = Uninit; first = None; kept = None }) (record v { state = Uninit })).state ≡ false) [ true ↦ refl | false ↦ refl ]
ended-other v SyncTai h = elim (is_some v.first) as (λ b. is_track (cond b (record v { state = SyncTai; first = None; kept = None }) (record v { state = SyncTai })).state ≡ false) [ true ↦ refl | false ↦ refl ]
ended-other v SyncNsec h = elim (is_some v.first) as (λ b. is_track (cond b (record v { state = SyncTai; first = None; kept = None }) (record v { state = SyncNsec })).state ≡ false) [ true ↦ refl | false ↦ refl ]
ended-other v SyncPhase h = elim (is_some v.first) as (λ b. is_track (cond b (record v { state = SyncTai; first = None; kept = None }) (record v { state = SyncPhase })).state ≡ false) [ true ↦ refl | false ↦ refl ]
ended-other v WaitStable h = elim (is_some v.first) as (λ b. is_track (cond b (record v { state = SyncTai; first = None; kept = None }) (record v { state = WaitStable })).state ≡ false) [ true ↦ refl | false ↦ refl ]
ended-other v Holdover h = elim (is_some v.first) as (λ b. is_track (cond b (record v { state = Holdover; first = None; kept = None }) (record v { state = Holdover })).state ≡ false) [ true ↦ refl | false ↦ refl ]

uninit_outside_holdover-other : (v : Core) (s : ServoState) → is_track s ≡ false → is_track (uninit_outside_holdover (record v { state = s }) s).state ≡ false
uninit_outside_holdover-other v Track h = cc
uninit_outside_holdover-other v Holdover h = refl
uninit_outside_holdover-other v _ h = refl

linked-other : (v : Core) (s : ServoState) → is_track s ≡ false → is_track (linked (record v { state = s }) s).state ≡ false
linked-other v Track h = cc
linked-other v Uninit h = refl
linked-other v _ h = refl

restarted_outside_holdover-other : (v : Core) (s : ServoState) → is_track s ≡ false → is_track (restarted_outside_holdover (record v { state = s }) s).state ≡ false
restarted_outside_holdover-other v Track h = cc
restarted_outside_holdover-other v Holdover h = refl
restarted_outside_holdover-other v _ h = refl

-- a choice between two servos outside TRACK
pub either-other : (b : Bool) (v w : Core) → is_track v.state ≡ false → is_track w.state ≡ false → is_track (cond b v w).state ≡ false
either-other true v w h k = h
either-other false v w h k = k

ended_by_gap-other : (v : Core) (s : ServoState) → is_track s ≡ false → is_track (ended_by_gap (record v { state = s })).state ≡ false
ended_by_gap-other v s h = either-other (is_past_gap v) (ended (record v { state = s })) (record v { state = s }) (ended-other v s h) h

ended_by_age-other : (v : Core) (s : ServoState) → is_track s ≡ false → is_track (ended_by_age (record v { state = s })).state ≡ false
ended_by_age-other v s h = either-other (is_track s && is_old v) (ended (record v { state = s })) (record v { state = s }) (ended-other v s h) h

later-other : (v : Core) (s : ServoState) → is_track s ≡ false → is_track (ended_by_age (ended_by_gap (record v { state = s }))).state ≡ false
later-other v s h = ended_by_age-other (ended_by_gap (record v { state = s })) (ended_by_gap (record v { state = s })).state (ended_by_gap-other v s h)

holdover_ticked-other : (v : Core) → is_track (holdover_ticked (record v { state = Holdover })).state ≡ false
holdover_ticked-other v =
    either-other (nat_le v.set.holdover (v.ticks - v.left_tick)) (record v { state = cond (is_some v.signals.link) SyncTai Uninit; phase = restarted v.phase }) (record v { state = Holdover })
    (elim (is_some v.signals.link) as (λ b. is_track (cond b SyncTai Uninit) ≡ false) [ true ↦ refl | false ↦ refl ])
    refl

tick-other : (v : Core) (s : ServoState) → is_track s ≡ false → is_track (by_tick (record v { state = s })).state ≡ false
tick-other v Track h = cc
tick-other v Holdover h = holdover_ticked-other (one_tick v)
tick-other v Uninit h = later-other (one_tick v) Uninit h
tick-other v SyncTai h = later-other (one_tick v) SyncTai h
tick-other v SyncNsec h = later-other (one_tick v) SyncNsec h
tick-other v SyncPhase h = later-other (one_tick v) SyncPhase h
tick-other v WaitStable h = later-other (one_tick v) WaitStable h

judged-other : (v : Core) (s : ServoState) → is_track s ≡ false → is_track (judged_in (record v { state = s }) s).state ≡ false
judged-other v Track h = cc
judged-other v SyncPhase h =
    either-other (int_le v.phase.s v.phase.goal && int_le v.phase.goal v.phase.s) (record v { state = WaitStable; calm = 0 }) (record v { state = SyncPhase }) refl refl
judged-other v _ h = h

chained-other : (v : Core) (s : ServoState) (n : ℕ) → is_track s ≡ false → is_track (chained (record v { state = s }) n).state ≡ false
chained-other v s n h =
    either-other v.phase.lock.locked (cond (may_start v) (record v { state = s; first = Some n }) (record v { state = s })) (ended (record v { state = s }))
    (either-other (may_start v) (record v { state = s; first = Some n }) (record v { state = s }) h h)
    (ended-other v s h)

good-other : (v : Core) (s : ServoState) (n : ℕ) → is_track s ≡ false → is_track (good (record v { state = s }) n).state ≡ false
good-other v s n h =
    let c : Core = chained (followed (record v { state = s })) n in
    either-other (is_far v.phase.u) (lost (record v { state = s })) (judged c) (ended-other v s h) (judged-other c c.state (chained-other (followed v) s n h))

heard-other : (v : Core) (s : ServoState) (n : ℕ) (tag : Option ℕ) → is_track s ≡ false → is_track (heard (record v { state = s }) n tag).state ≡ false
heard-other v s n None h = h
heard-other v s n (Some tag) h = good-other (with_tag v tag) s n h

sample-other : (v : Core) (s : ServoState) (n base bits : ℕ) → is_track s ≡ false → is_track (by_sample (record v { state = s }) n base bits).state ≡ false
sample-other v s n base bits h =
    either-other (hears (record v { state = s })) (heard (with_last (record v { state = s }) n) n (good_tag v.last n base bits)) (record v { state = s })
    (heard-other (with_last v n) s n (good_tag v.last n base bits) h)
    h

pub by_period-other : (v : Core) (k : Measurement) (est : ℤ) → is_track (by_period v k est).state ≡ false
by_period-other v k est = either-other (is_half v est) (aimed v k SyncPhase) (stepped v SyncNsec) refl refl

-- a four that is kept, with a chain whose first sample is m
placed-other : (v : Core) (m : ℕ) (k : Measurement) (s : ServoState) → is_track s ≡ false →
    Ends (placed_in (record v { state = s; first = Some m; kept = Some k }) k (est_of v.phase.u k) s) (is_wait_stable s && (nat_le v.set.stable v.calm && may_track v k))
placed-other v m k Track h = record { track = cc; chain = λ e. cc }
placed-other v m k SyncTai h =
    let w : Core = record v { state = SyncTai; first = Some m; kept = Some k } in
    let est : ℤ = est_of v.phase.u k in
    other _ (either-other (is_below_second est) (by_period w k est) (stepped w SyncTai) (by_period-other w k est) refl)
placed-other v m k SyncNsec h = other _ (by_period-other (record v { state = SyncNsec; first = Some m; kept = Some k }) k (est_of v.phase.u k))
placed-other v m k WaitStable h =
    let w : Core = record v { state = WaitStable; first = Some m; kept = Some k } in
    let est : ℤ = est_of v.phase.u k in
    elim (nat_le v.set.stable v.calm) as (λ a. Ends (cond a (settled w k est) w) (a && may_track v k)) [
      | false ↦ record { track = refl; chain = λ e. refl }
      | true ↦ elim (may_track v k) as (λ b. Ends (cond b (aimed w k Track) (cond (is_half w est) (aimed w k SyncPhase) (record w { state = SyncNsec }))) b) [
        | true ↦ record { track = refl; chain = λ e. refl }
        | false ↦ other _ (either-other (is_half w est) (aimed w k SyncPhase) (record w { state = SyncNsec }) refl refl)
      ]
    ]
placed-other v m k _ h = record { track = refl; chain = λ e. refl }

-- and no entry where x is out of range
not_in : (wait a b : Bool) → (wait && (false && (a && b))) ≡ false
not_in true a b = refl
not_in false a b = refl

answered-other : (x : ServoSetting) (v : Core) (m : ℕ) (s : ServoState) (f : Four) (y : ℤ) (on : Option Deltas) → is_track s ≡ false →
    Ends (answered x.lo x.hi (record v { state = s; first = Some m }) f y on) (enters_by x (record v { state = s; first = Some m }) f y on)
answered-other x v m s f y None h = other _ h
answered-other x v m s f y (Some d) h =
    let k : Measurement = record { four = f; delay = delay_of d y } in
    let w : Core = record v { state = s; first = Some m } in
    elim (is_in x.lo x.hi (x_of d f)) as (λ b. Ends (cond b (placed w k) (ended w)) (is_wait_stable s && (b && (nat_le v.set.stable v.calm && may_track v k)))) [
      | true ↦ placed-other v m k s h
      | false ↦ record { track = ended-other (record v { first = Some m }) s h ∙ sym (not_in (is_wait_stable s) (nat_le v.set.stable v.calm) (may_track v k)); chain = λ e. let n : is_track (ended w).state ≡ false = ended-other (record v { first = Some m }) s h in cc }
    ]

measured-other : (x : ServoSetting) (v : Core) (s : ServoState) (first : Option ℕ) (f : Four) (y : ℤ) → is_track s ≡ false →
    Ends (after x (record v { state = s; first = first }) (CallMeasured f y)) (enters x (record v { state = s; first = first }) (CallMeasured f y))
measured-other x v s None f y h = other _ h
measured-other x v s (Some m) f y h = answered-other x v m s f y v.signals.link h

pub call-other : (x : ServoSetting) (v : Core) (s : ServoState) (first : Option ℕ) (call : Call) → is_track s ≡ false →
    Ends (after x (record v { state = s; first = first }) call) (enters x (record v { state = s; first = first }) call)
call-other x v s first (CallMeasured f y) h = measured-other x v s first f y h
call-other x v s first (CallSample n base bits) h = other _ (sample-other (record v { first = first }) s n base bits h)
call-other x v s first CallTick h = other _ (tick-other (record v { first = first }) s h)
call-other x v s first (CallLease true) h = other _ h
call-other x v s first (CallLease false) h = other _ (ended-other (with_lease (record v { first = first }) false) s h)
call-other x v s first (CallLink (Some d)) h = other _ (linked-other (with_link (record v { first = first }) (Some d)) s h)
call-other x v s first (CallLink None) h =
    let w : Core = ended (with_link (record v { state = s; first = first }) None) in
    other _ (uninit_outside_holdover-other w w.state (ended-other (with_link (record v { first = first }) None) s h))
call-other x v s first (CallCarrier true) h = other _ (restarted_outside_holdover-other (with_carrier (record v { first = first }) true) s h)
call-other x v s first (CallCarrier false) h =
    let w : Core = ended (carrier_gone (record v { state = s; first = first })) in
    other _ (uninit_outside_holdover-other w w.state (ended-other (carrier_gone (record v { first = first })) s h))
call-other x v s first CallReset h = record { track = refl; chain = λ e. cc }

-- ---- any call

pub call-at : (x : ServoSetting) (v : Core) (s : ServoState) (first : Option ℕ) (call : Call) → (is_track s ≡ true → is_some first ≡ true) →
    Ends (after x (record v { state = s; first = first }) call)
    (cond (is_track s) (not (leaves x (record v { state = s; first = first }) call)) (enters x (record v { state = s; first = first }) call))
call-at x v Track None call h = absurd (let e : false ≡ true = h refl in cc)
call-at x v Track (Some m) call h = call-track x v m call
call-at x v Uninit first call h = call-other x v Uninit first call refl
call-at x v SyncTai first call h = call-other x v SyncTai first call refl
call-at x v SyncNsec first call h = call-other x v SyncNsec first call refl
call-at x v SyncPhase first call h = call-other x v SyncPhase first call refl
call-at x v WaitStable first call h = call-other x v WaitStable first call refl
call-at x v Holdover first call h = call-other x v Holdover first call refl

-- TRACK as a running value: what the definitions say, one call after another
unfoldable pub tracking : ServoSetting → List Call → Bool
tracking x [] = false
tracking x (call ∷ calls) = cond (tracking x calls) (not (leaves x (run x calls) call)) (enters x (run x calls) call)

pub stands : (x : ServoSetting) (calls : List Call) → Ends (run x calls) (tracking x calls)
unfolding tracking
stands x [] = record { track = refl; chain = λ e. cc }
stands x (call ∷ calls) =
    let before : Ends (run x calls) (tracking x calls) = stands x calls in
    subst (λ (b : Bool). Ends (run x (call ∷ calls)) (cond b (not (leaves x (run x calls) call)) (enters x (run x calls) call))) before.track
    (call-at x (run x calls) (run x calls).state (run x calls).first call before.chain)
