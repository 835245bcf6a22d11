-- One call: there is a chain after it exactly when the definitions say.
use Rattle.std.proofs.Common.{◌≡◌, refl, ap, ◌∙◌, sym, ℕ, ℤ, Bool, true, false, cond, not, ◌&&◌, ◌||◌, nat_le, ◌-◌, is_some, Option, None, Some}
use Rattle.std.specs.Prelude.{int_le}
use Rattle.std.proofs.lemmas.Bool.{and_left}
use Rattle.wrp_base.specs.declared.link.Deltas.{Deltas}
use Rattle.wrp_base.specs.declared.link.ServoState.{ServoState}
use Rattle.wrp_base.specs.declared.link.ServoState.TheVariants.{Uninit, SyncTai, SyncNsec, SyncPhase, WaitStable, Track, Holdover}
use Rattle.wrp_base.specs.declared.measurement.Four.{Four}
use Rattle.wrp_servo.specs.declared.machine.Measurement.{Measurement}
use Rattle.wrp_servo.specs.declared.machine.Core.{Core}
use Rattle.wrp_servo.specs.Following.{restarted}
use Rattle.wrp_servo.specs.Table.{is_track, is_past_gap, is_old, one_tick, ended, uninit_outside_holdover, ended_by_gap, ended_by_age, by_tick, holdover_ticked, carrier_gone, with_link, with_lease, with_carrier, linked, restarted_outside_holdover}
use Rattle.wrp_servo.specs.Sampling.{hears, is_holdover, good_tag, is_far, with_tag, with_last, followed, judged, judged_in, chained, may_start, good, heard, lost, est_of, by_sample}
use Rattle.wrp_servo.specs.Measuring.{is_in, x_of, delay_of, may_track, answered, placed, placed_in, aimed, by_period, settled, stepped, is_half, is_below_second}
use Rattle.wrp_servo.specs.Call.{Call, CallSample, CallMeasured, CallTick, CallLease, CallLink, CallCarrier, CallReset, ServoSetting, after}
use Rattle.wrp_servo.specs.Chain.{unlocks, is_outside, steps, steps_in, ends, strays_at, starts, starts_by, ends_chain}

-- ---- what leaves the chain's first sample as it is

either-first : (b : Bool) (v w : Core) (o : Option ℕ) → v.first ≡ o → w.first ≡ o → (cond b v w).first ≡ o
either-first true v w o h k = h
either-first false v w o h k = k

uninit_outside_holdover-first : (v : Core) (s : ServoState) → (uninit_outside_holdover (record v { state = s }) s).first ≡ v.first
uninit_outside_holdover-first v Holdover = refl
uninit_outside_holdover-first v _ = refl

linked-first : (v : Core) (s : ServoState) → (linked (record v { state = s }) s).first ≡ v.first
linked-first v Uninit = refl
linked-first v _ = refl

restarted_outside_holdover-first : (v : Core) (s : ServoState) → (restarted_outside_holdover (record v { state = s }) s).first ≡ v.first
restarted_outside_holdover-first v Holdover = refl
restarted_outside_holdover-first v _ = refl

judged-first : (v : Core) (s : ServoState) → is_track s ≡ false → (judged_in (record v { state = s }) s).first ≡ v.first
judged-first v Track h = absurd cc
judged-first v SyncPhase h = either-first (int_le v.phase.s v.phase.goal && int_le v.phase.goal v.phase.s) (record v { state = WaitStable; calm = 0 }) (record v { state = SyncPhase }) v.first refl refl
judged-first v _ h = refl

holdover_ticked-first : (v : Core) → (holdover_ticked v).first ≡ v.first
holdover_ticked-first v = either-first (nat_le v.set.holdover (v.ticks - v.left_tick)) (record v { state = cond (is_some v.signals.link) SyncTai Uninit; phase = restarted v.phase }) v v.first refl refl

-- the end of a chain
pub record IsEnded (v : Core) : Type 0 where
  first : v.first ≡ None
  track : is_track v.state ≡ false

ended-some : (v : Core) (m : ℕ) (s : ServoState) → IsEnded (ended (record v { state = s; first = Some m }))
ended-some v m Track = record { first = refl; track = refl }
ended-some v m SyncNsec = record { first = refl; track = refl }
ended-some v m SyncPhase = record { first = refl; track = refl }
ended-some v m WaitStable = record { first = refl; track = refl }
ended-some v m _ = record { first = refl; track = refl }

-- ---- there is a chain, in a state other than TRACK

abbrev pub chainer : Core → ℕ → ServoState → Core
chainer v m s = record v { state = s; first = Some m }

or-false : (a b c : Bool) → b ≡ false → (a || (b && c)) ≡ a
or-false true b c h = refl
or-false false b c h = and_left b c h

-- judged outside TRACK
judged-is : (v : Core) (o : Option ℕ) → is_track v.state ≡ false → v.first ≡ o → (judged v).first ≡ o
judged-is v o h e = judged-first v v.state h ∙ e

good-some : (v : Core) (m : ℕ) (s : ServoState) (n tag : ℕ) → is_track s ≡ false →
    is_some (good (with_tag (with_last (chainer v m s) n) tag) n).first ≡ not (unlocks (chainer v m s) (Some tag))
good-some v m s n tag h =
    let w : Core = with_tag (with_last (chainer v m s) n) tag in
    let f : Core = followed w in
    let gone : IsEnded (ended f) = ended-some f m s in
    elim (is_far w.phase.u) as (λ b. is_some (cond b (lost w) (judged (chained f n))).first ≡ not (b || not f.phase.lock.locked)) [
      | true ↦ ap is_some (ended-some w m s).first
      | false ↦ elim f.phase.lock.locked as (λ l. is_some (judged (cond l (cond (may_start f) (record f { first = Some n }) f) (ended f))).first ≡ not (not l)) [
        | false ↦ ap is_some (judged-is (ended f) None gone.track gone.first)
        | true ↦ ap is_some (judged-is f (Some m) h refl)
      ]
    ]

heard-some : (v : Core) (m : ℕ) (s : ServoState) (n : ℕ) (tag : Option ℕ) → is_track s ≡ false →
    is_some (heard (with_last (chainer v m s) n) n tag).first ≡ not (unlocks (chainer v m s) tag)
heard-some v m s n None h = refl
heard-some v m s n (Some tag) h = good-some v m s n tag h

sample-some : (v : Core) (m : ℕ) (s : ServoState) (n base bits : ℕ) → is_track s ≡ false →
    is_some (by_sample (chainer v m s) n base bits).first ≡ not (hears (chainer v m s) && unlocks (chainer v m s) (good_tag v.last n base bits))
sample-some v m s n base bits h =
    elim (hears (chainer v m s)) as (λ b. is_some (cond b (heard (with_last (chainer v m s) n) n (good_tag v.last n base bits)) (chainer v m s)).first ≡ not (b && unlocks (chainer v m s) (good_tag v.last n base bits))) [
      | true ↦ heard-some v m s n (good_tag v.last n base bits) h
      | false ↦ refl
    ]

-- outside TRACK the age of the four is nothing
ended_by_age-off : (v : Core) → is_track v.state ≡ false → ended_by_age v ≡ v
ended_by_age-off v h = ap (λ (b : Bool). cond b (ended v) v) (and_left (is_track v.state) (is_old v) h)

later-some : (v : Core) (m : ℕ) (s : ServoState) → is_track s ≡ false → is_some (ended_by_age (ended_by_gap (chainer v m s))).first ≡ not (is_past_gap v)
later-some v m s h =
    let w : Core = chainer v m s in
    let gone : IsEnded (ended w) = ended-some v m s in
    elim (is_past_gap v) as (λ g. is_some (ended_by_age (cond g (ended w) w)).first ≡ not g) [
      | true ↦ ap (λ (c : Core). is_some c.first) (ended_by_age-off (ended w) gone.track) ∙ ap is_some gone.first
      | false ↦ ap (λ (c : Core). is_some c.first) (ended_by_age-off w h)
    ]

tick-some : (v : Core) (m : ℕ) (s : ServoState) → is_track s ≡ false → is_some (by_tick (chainer v m s)).first ≡ not (not (is_holdover s) && is_past_gap (one_tick v))
tick-some v m Track h = absurd cc
tick-some v m Holdover h = ap is_some (holdover_ticked-first (one_tick (chainer v m Holdover)))
tick-some v m Uninit h = later-some (one_tick v) m Uninit refl
tick-some v m SyncTai h = later-some (one_tick v) m SyncTai refl
tick-some v m SyncNsec h = later-some (one_tick v) m SyncNsec refl
tick-some v m SyncPhase h = later-some (one_tick v) m SyncPhase refl
tick-some v m WaitStable h = later-some (one_tick v) m WaitStable refl

by_period-some : (v : Core) (m : ℕ) (k : Measurement) (est : ℤ) → v.first ≡ Some m → is_some (by_period v k est).first ≡ not (not (is_half v est))
by_period-some v m k est e =
    elim (is_half v est) as (λ b. is_some (cond b (aimed v k SyncPhase) (stepped v SyncNsec)).first ≡ not (not b)) [ true ↦ ap is_some e | false ↦ refl ]

placed-some : (v : Core) (m : ℕ) (k : Measurement) (s : ServoState) → is_track s ≡ false →
    is_some (placed_in (record v { state = s; first = Some m; kept = Some k }) k (est_of v.phase.u k) s).first ≡ not (steps_in v (est_of v.phase.u k) s)
placed-some v m k Track h = absurd cc
placed-some v m k SyncTai h =
    let w : Core = record v { state = SyncTai; first = Some m; kept = Some k } in
    let est : ℤ = est_of v.phase.u k in
    elim (is_below_second est) as (λ b. is_some (cond b (by_period w k est) (stepped w SyncTai)).first ≡ not (not (b && is_half v est))) [
      | true ↦ by_period-some w m k est refl
      | false ↦ refl
    ]
placed-some v m k SyncNsec h = by_period-some (record v { state = SyncNsec; first = Some m; kept = Some k }) m k (est_of v.phase.u k) refl
placed-some v m k WaitStable h =
    let w : Core = record v { state = WaitStable; first = Some m; kept = Some k } in
    let est : ℤ = est_of v.phase.u k in
    ap is_some (either-first (nat_le v.set.stable v.calm) (settled w k est) w (Some m)
    (either-first (may_track w k) (aimed w k Track) (cond (is_half w est) (aimed w k SyncPhase) (record w { state = SyncNsec })) (Some m) refl
    (either-first (is_half w est) (aimed w k SyncPhase) (record w { state = SyncNsec }) (Some m) refl refl))
    refl)
placed-some v m k _ h = refl

answered-some : (x : ServoSetting) (v : Core) (m : ℕ) (s : ServoState) (f : Four) (y : ℤ) (on : Option Deltas) → is_track s ≡ false →
    is_some (answered x.lo x.hi (chainer v m s) f y on).first ≡ not (is_outside x f on || steps x (chainer v m s) f y on)
answered-some x v m s f y None h = refl
answered-some x v m s f y (Some d) h =
    let k : Measurement = record { four = f; delay = delay_of d y } in
    let w : Core = chainer v m s in
    elim (is_in x.lo x.hi (x_of d f)) as (λ b. is_some (cond b (placed w k) (ended w)).first ≡ not (not b || (b && steps_in v (est_of v.phase.u k) s))) [
      | true ↦ placed-some v m k s h
      | false ↦ ap is_some (ended-some v m s).first
    ]

-- any call while there is a chain, in a state other than TRACK
call-some : (x : ServoSetting) (v : Core) (m : ℕ) (s : ServoState) (call : Call) → is_track s ≡ false → is_some (after x (chainer v m s) call).first ≡ not (ends x (chainer v m s) call)
call-some x v m s (CallSample n base bits) h = sample-some v m s n base bits h
call-some x v m s (CallMeasured f y) h = answered-some x v m s f y v.signals.link h
call-some x v m s CallTick h = tick-some v m s h
call-some x v m s (CallLease true) h = refl
call-some x v m s (CallLease false) h = ap is_some (ended-some (with_lease v false) m s).first
call-some x v m s (CallLink (Some d)) h = ap is_some (linked-first (with_link (record v { first = Some m }) (Some d)) s)
call-some x v m s (CallLink None) h =
    let w : Core = ended (with_link (chainer v m s) None) in
    ap is_some (uninit_outside_holdover-first w w.state ∙ (ended-some (with_link v None) m s).first)
call-some x v m s (CallCarrier true) h = ap is_some (restarted_outside_holdover-first (with_carrier (record v { first = Some m }) true) s)
call-some x v m s (CallCarrier false) h =
    let w : Core = ended (carrier_gone (chainer v m s)) in
    ap is_some (uninit_outside_holdover-first w w.state ∙ (ended-some (carrier_gone v) m s).first)
call-some x v m s CallReset h = refl

-- ---- there is no chain, in a state other than TRACK

abbrev pub loose : Core → ServoState → Core
loose v s = record v { state = s; first = None }

good-none : (v : Core) (s : ServoState) (n tag : ℕ) → is_track s ≡ false →
    is_some (good (with_tag (with_last (loose v s) n) tag) n).first ≡ starts_by (loose v s) (Some tag)
good-none v s n tag h =
    let w : Core = with_tag (with_last (loose v s) n) tag in
    let f : Core = followed w in
    let may : Bool = is_some v.signals.link && v.signals.lease in
    elim (is_far w.phase.u) as (λ b. is_some (cond b (lost w) (judged (chained f n))).first ≡ (not b && (f.phase.lock.locked && may))) [
      | true ↦ refl
      | false ↦ elim f.phase.lock.locked as (λ l. is_some (judged (cond l (cond (may_start f) (record f { first = Some n }) f) (ended f))).first ≡ (l && may)) [
        | false ↦ ap is_some (judged-is f None h refl)
        | true ↦ elim may as (λ b. is_some (judged (cond b (record f { first = Some n }) f)).first ≡ b) [
          | true ↦ ap is_some (judged-is (record f { first = Some n }) (Some n) h refl)
          | false ↦ ap is_some (judged-is f None h refl)
        ]
      ]
    ]

heard-none : (v : Core) (s : ServoState) (n : ℕ) (tag : Option ℕ) → is_track s ≡ false →
    is_some (heard (with_last (loose v s) n) n tag).first ≡ starts_by (loose v s) tag
heard-none v s n None h = refl
heard-none v s n (Some tag) h = good-none v s n tag h

sample-none : (v : Core) (s : ServoState) (n base bits : ℕ) → is_track s ≡ false →
    is_some (by_sample (loose v s) n base bits).first ≡ (hears (loose v s) && starts_by (loose v s) (good_tag v.last n base bits))
sample-none v s n base bits h =
    elim (hears (loose v s)) as (λ b. is_some (cond b (heard (with_last (loose v s) n) n (good_tag v.last n base bits)) (loose v s)).first ≡ (b && starts_by (loose v s) (good_tag v.last n base bits))) [
      | true ↦ heard-none v s n (good_tag v.last n base bits) h
      | false ↦ refl
    ]

later-none : (v : Core) (s : ServoState) → (ended_by_age (ended_by_gap (loose v s))).first ≡ None
later-none v s =
    let w : Core = loose v s in
    elim (is_past_gap v) as (λ g. (ended_by_age (cond g (ended w) w)).first ≡ None) [
      | true ↦ either-first (is_track s && is_old v) (ended w) w None refl refl
      | false ↦ either-first (is_track s && is_old v) (ended w) w None refl refl
    ]

tick-none : (v : Core) (s : ServoState) → is_some (by_tick (loose v s)).first ≡ false
tick-none v Holdover = ap is_some (holdover_ticked-first (one_tick (loose v Holdover)))
tick-none v Track = ap is_some (later-none (one_tick v) Track)
tick-none v Uninit = ap is_some (later-none (one_tick v) Uninit)
tick-none v SyncTai = ap is_some (later-none (one_tick v) SyncTai)
tick-none v SyncNsec = ap is_some (later-none (one_tick v) SyncNsec)
tick-none v SyncPhase = ap is_some (later-none (one_tick v) SyncPhase)
tick-none v WaitStable = ap is_some (later-none (one_tick v) WaitStable)

call-none : (x : ServoSetting) (v : Core) (s : ServoState) (call : Call) → is_track s ≡ false → is_some (after x (loose v s) call).first ≡ starts x (loose v s) call
call-none x v s (CallSample n base bits) h = sample-none v s n base bits h
call-none x v s (CallMeasured f y) h = refl
call-none x v s CallTick h = tick-none v s
call-none x v s (CallLease true) h = refl
call-none x v s (CallLease false) h = refl
call-none x v s (CallLink (Some d)) h = ap is_some (linked-first (with_link (record v { first = None }) (Some d)) s)
call-none x v s (CallLink None) h = ap is_some (uninit_outside_holdover-first (with_link (record v { first = None }) None) s)
call-none x v s (CallCarrier true) h = ap is_some (restarted_outside_holdover-first (with_carrier (record v { first = None }) true) s)
call-none x v s (CallCarrier false) h = ap is_some (uninit_outside_holdover-first (carrier_gone (record v { first = None })) s)
call-none x v s CallReset h = refl

-- ---- any call outside TRACK

pub call-other : (x : ServoSetting) (v : Core) (s : ServoState) (first : Option ℕ) (call : Call) → is_track s ≡ false →
    is_some (after x (record v { state = s; first = first }) call).first
    ≡ cond (is_some first) (not (ends_chain x (record v { state = s; first = first }) call)) (starts x (record v { state = s; first = first }) call)
call-other x v s None call h = call-none x v s call h
call-other x v s (Some m) call h = call-some x v m s call h ∙ ap not (sym (or-false (ends x (chainer v m s) call) (is_track s) (strays_at x (chainer v m s) call) h))
