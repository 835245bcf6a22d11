-- In TRACK there is a four, and the loop's error and the residual are within their limits.
use Rattle.std.proofs.Common.{◌≡◌, refl, ap, sym, ℕ, ℤ, Bool, true, false, cond, ◌&&◌, nat_le, ◌-◌, is_some, Option, None, Some, [], ◌∷◌, subst}
use Rattle.wrp_base.specs.declared.link.Deltas.{Deltas}
use Rattle.wrp_base.specs.declared.link.ServoState.{ServoState}
use Rattle.wrp_base.specs.declared.link.ServoState.TheVariants.{Uninit, SyncTai, SyncNsec, SyncPhase, WaitStable, Track, Holdover}
use Rattle.wrp_base.specs.declared.measurement.Four.{Four}
use Rattle.wrp_base.proofs.Booleans.{and_first, and_second}
use Rattle.wrp_servo.specs.declared.machine.Measurement.{Measurement}
use Rattle.wrp_servo.specs.declared.machine.Core.{Core}
use Rattle.wrp_servo.specs.Table.{is_past_gap, is_old, is_track, one_tick, ended, ended_by_age, by_tick}
use Rattle.wrp_servo.specs.Sampling.{hears, good_tag, is_far, is_calm, is_near, is_within, residual, with_tag, with_last, followed, stays_near, judged, chained, may_start, good, heard, lost, est_of, by_sample}
use Rattle.wrp_servo.specs.Measuring.{is_in, x_of, kept_of, may_track, answered, placed, placed_in, aimed, by_period, settled, stepped, is_half, is_below_second}
use Rattle.wrp_servo.specs.Call.{Call, CallSample, CallMeasured, CallTick, CallLease, CallLink, CallCarrier, CallReset, ServoSetting, after, run}
use Rattle.wrp_servo.specs.Laws.{InTrack, TrackIsNear}
use Rattle.wrp_servo.proofs.Tracks.{tracker, call-other as entered, stands, either-other, by_period-other, ended-other}

-- what is to be shown of a servo after a call
abbrev Shows : Core → Type 0
Shows v = is_track v.state ≡ true → InTrack v

off : (v : Core) → is_track v.state ≡ false → Shows v
off v h e = absurd cc

-- a test with its answer
tested : (b : Bool) (v w : Core) → (b ≡ true → Shows v) → (b ≡ false → Shows w) → Shows (cond b v w)
tested true v w h k = h refl
tested false v w h k = k refl

-- ---- from TRACK

stays-shows : (f : Core) → is_some f.kept ≡ true → stays_near f ≡ true → Shows f
stays-shows f k h e = record {
  kept = k;
  calm = and_first (is_calm f) (is_near f.set.track_tau f.phase f.kept) h;
  near = and_second (is_calm f) (is_near f.set.track_tau f.phase f.kept) h;
}

good-shows : (v : Core) (m n tag : ℕ) → is_some v.kept ≡ true → Shows (good (with_tag (with_last (tracker v m) n) tag) n)
good-shows v m n tag k =
    let w : Core = with_tag (with_last (tracker v m) n) tag in
    let f : Core = followed w in
    tested (is_far w.phase.u) (lost w) (judged (chained f n)) (λ _. off (lost w) refl)
    (λ _. elim f.phase.lock.locked as (λ l. Shows (judged (cond l (cond (may_start f) (record f { first = Some n }) f) (ended f)))) [
      | true ↦ tested (stays_near f) f (ended f) (stays-shows f k) (λ _. off (ended f) refl)
      | false ↦ off (ended f) refl
    ])

heard-shows : (v : Core) (m n : ℕ) (tag : Option ℕ) → InTrack (tracker v m) → Shows (heard (with_last (tracker v m) n) n tag)
heard-shows v m n None t = λ e. record { kept = t.kept; calm = t.calm; near = t.near }
heard-shows v m n (Some tag) t = good-shows v m n tag t.kept

sample-shows : (v : Core) (m n base bits : ℕ) → InTrack (tracker v m) → Shows (by_sample (tracker v m) n base bits)
sample-shows v m n base bits t =
    tested (hears (tracker v m)) (heard (with_last (tracker v m) n) n (good_tag v.last n base bits)) (tracker v m)
    (λ _. heard-shows v m n (good_tag v.last n base bits) t) (λ _ e. t)

tick-shows : (v : Core) (m : ℕ) → InTrack (tracker v m) → Shows (by_tick (tracker v m))
tick-shows v m t =
    let w : Core = one_tick (tracker v m) in
    elim (is_past_gap w) as (λ g. Shows (ended_by_age (cond g (ended w) w))) [
      | true ↦ off (ended w) refl
      | false ↦ tested (is_old w) (ended w) w (λ _. off (ended w) refl) (λ _ e. record { kept = t.kept; calm = t.calm; near = t.near })
    ]

measured-shows : (x : ServoSetting) (v : Core) (m : ℕ) (f : Four) (y : ℤ) (on : Option Deltas) → InTrack (tracker v m) → Shows (answered x.lo x.hi (tracker v m) f y on)
measured-shows x v m f y None t = λ e. t
measured-shows x v m f y (Some d) t =
    let k : Measurement = kept_of f d y in
    let w : Core = record (tracker v m) { kept = Some k } in
    tested (is_in x.lo x.hi (x_of d f)) (placed (tracker v m) k) (ended (tracker v m))
    (λ _. tested (is_within v.set.track_tau (residual v.phase k)) (aimed w k Track) (ended w) (λ h e. record { kept = refl; calm = t.calm; near = h }) (λ _. off (ended w) refl))
    (λ _. off (ended (tracker v m)) refl)

track-shows : (x : ServoSetting) (v : Core) (m : ℕ) (call : Call) → InTrack (tracker v m) → Shows (after x (tracker v m) call)
track-shows x v m (CallSample n base bits) t = sample-shows v m n base bits t
track-shows x v m (CallMeasured f y) t = measured-shows x v m f y v.signals.link t
track-shows x v m CallTick t = tick-shows v m t
track-shows x v m (CallLease true) t = λ e. record { kept = t.kept; calm = t.calm; near = t.near }
track-shows x v m (CallLease false) t = off _ refl
track-shows x v m (CallLink None) t = off _ refl
track-shows x v m (CallLink (Some d)) t = λ e. record { kept = t.kept; calm = t.calm; near = t.near }
track-shows x v m (CallCarrier true) t = λ e. record { kept = t.kept; calm = t.calm; near = t.near }
track-shows x v m (CallCarrier false) t = off _ refl
track-shows x v m CallReset t = off _ refl

-- ---- from another state: only a measurement enters TRACK

settled-shows : (v : Core) (k : Measurement) (est : ℤ) → is_track v.state ≡ false → v.kept ≡ Some k → Shows (settled v k est)
settled-shows v k est h e =
    tested (may_track v k) (aimed v k Track) (cond (is_half v est) (aimed v k SyncPhase) (record v { state = SyncNsec }))
    (λ p _. record {
      kept = ap is_some e;
      calm = and_first (is_calm v) (nat_le (v.ticks - k.four.tick) v.set.age) (and_second (is_within v.set.track_tau (residual v.phase k)) (is_calm v && nat_le (v.ticks - k.four.tick) v.set.age) p);
      near = subst (λ (o : Option Measurement). is_near v.set.track_tau v.phase o ≡ true) (sym e) (and_first (is_within v.set.track_tau (residual v.phase k)) (is_calm v && nat_le (v.ticks - k.four.tick) v.set.age) p);
    })
    (λ _. off _ (either-other (is_half v est) (aimed v k SyncPhase) (record v { state = SyncNsec }) refl refl))

placed-shows : (v : Core) (k : Measurement) (est : ℤ) (s : ServoState) → is_track s ≡ false → Shows (placed_in (record v { state = s; kept = Some k }) k est s)
placed-shows v k est Track h = absurd cc
placed-shows v k est SyncTai h =
    let w : Core = record v { state = SyncTai; kept = Some k } in
    off _ (either-other (is_below_second est) (by_period w k est) (stepped w SyncTai) (by_period-other w k est) refl)
placed-shows v k est SyncNsec h = off _ (by_period-other (record v { state = SyncNsec; kept = Some k }) k est)
placed-shows v k est WaitStable h =
    let w : Core = record v { state = WaitStable; kept = Some k } in
    tested (nat_le v.set.stable v.calm) (settled w k est) w (λ _. settled-shows w k est refl refl) (λ _. off w refl)
placed-shows v k est Uninit h = off _ refl
placed-shows v k est SyncPhase h = off _ refl
placed-shows v k est Holdover h = off _ refl

answered-shows : (x : ServoSetting) (v : Core) (s : ServoState) (f : Four) (y : ℤ) (on : Option Deltas) → is_track s ≡ false → Shows (answered x.lo x.hi (record v { state = s }) f y on)
answered-shows x v s f y None h = off _ h
answered-shows x v s f y (Some d) h =
    let k : Measurement = kept_of f d y in
    let w : Core = record v { state = s } in
    tested (is_in x.lo x.hi (x_of d f)) (placed w k) (ended w)
    (λ _. placed-shows v k (est_of v.phase.u k) s h)
    (λ _. off (ended w) (ended-other v s h))

shows-other : (x : ServoSetting) (v : Core) (s : ServoState) (first : Option ℕ) (call : Call) → is_track s ≡ false → Shows (after x (record v { state = s; first = first }) call)
shows-other x v s None (CallMeasured f y) h = off _ h
shows-other x v s (Some m) (CallMeasured f y) h = answered-shows x (record v { first = Some m }) s f y v.signals.link h
shows-other x v s first (CallSample n base bits) h = off _ (entered x v s first (CallSample n base bits) h).track
shows-other x v s first CallTick h = off _ (entered x v s first CallTick h).track
shows-other x v s first (CallLease fresh) h = off _ (entered x v s first (CallLease fresh) h).track
shows-other x v s first (CallLink on) h = off _ (entered x v s first (CallLink on) h).track
shows-other x v s first (CallCarrier up) h = off _ (entered x v s first (CallCarrier up) h).track
shows-other x v s first CallReset h = off _ (entered x v s first CallReset h).track

pub shows-at : (x : ServoSetting) (v : Core) (s : ServoState) (first : Option ℕ) (call : Call) → (is_track s ≡ true → is_some first ≡ true) →
    (is_track s ≡ true → InTrack (record v { state = s; first = first })) → Shows (after x (record v { state = s; first = first }) call)
shows-at x v Track None call h t = absurd (let e : false ≡ true = h refl in cc)
shows-at x v Track (Some m) call h t = track-shows x v m call (t refl)
shows-at x v Uninit first call h t = shows-other x v Uninit first call refl
shows-at x v SyncTai first call h t = shows-other x v SyncTai first call refl
shows-at x v SyncNsec first call h t = shows-other x v SyncNsec first call refl
shows-at x v SyncPhase first call h t = shows-other x v SyncPhase first call refl
shows-at x v WaitStable first call h t = shows-other x v WaitStable first call refl
shows-at x v Holdover first call h t = shows-other x v Holdover first call refl

pub track_stays_near : TrackIsNear
track_stays_near x [] = λ e. absurd cc
track_stays_near x (call ∷ calls) =
    shows-at x (run x calls) (run x calls).state (run x calls).first call (stands x calls).chain (track_stays_near x calls)
