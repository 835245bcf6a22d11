-- HOLDOVER of a servo, call by call: it is entered from TRACK, unlocked, and its ticks are counted.
use Rattle.std.proofs.Common.{◌≡◌, ◌⊎◌, inl, inr, ◌∙◌, refl, ap, sym, subst, ℕ, ◌+◌, ◌-◌, ◌<◌, ◌≤◌, ℤ, ◌&&◌, cond, Bool, true, false, is_some, List, [], ◌∷◌, ◌++◌, Option, None, Some, arith}
use Rattle.std.specs.Prelude.{nat_le}
use Rattle.std.proofs.lemmas.Bool.{false≢true}
use Rattle.wrp_base.specs.declared.link.Deltas.{Deltas}
use Rattle.wrp_base.specs.declared.link.ServoState.{ServoState}
use Rattle.wrp_base.specs.declared.link.ServoState.TheVariants.{Uninit, SyncTai, SyncNsec, SyncPhase, WaitStable, Track, Holdover}
use Rattle.wrp_base.specs.declared.measurement.Four.{Four}
use Rattle.wrp_base.proofs.Lists.{head_and_tail}
use Rattle.wrp_base.proofs.Naturals.{is_plus_zero}
use Rattle.wrp_servo.specs.declared.machine.Core.{Core}
use Rattle.wrp_servo.specs.declared.machine.Measurement.{Measurement}
use Rattle.wrp_servo.specs.Call.{Call, CallSample, CallMeasured, CallTick, CallLease, CallLink, CallCarrier, CallReset, ServoSetting, after, is_reset, run}
use Rattle.wrp_servo.specs.Following.{restarted}
use Rattle.wrp_servo.specs.Holdover.{HoldoverSince, InHoldover, NoneResets, ticks_among}
use Rattle.wrp_servo.specs.Laws.{TrackHasChain, TrackSince}
use Rattle.wrp_servo.specs.LookBack.{enters_track, leaves_track}
use Rattle.wrp_servo.specs.Measuring.{aimed, answered, delay_of, is_in, placed, x_of}
use Rattle.wrp_servo.specs.Sampling.{followed, good, good_tag, heard, hears, is_far, is_holdover, is_within, judged, lost, may_start, chained, residual, stays_near, with_last, with_tag}
use Rattle.wrp_servo.specs.Since.{Since, NoneEnds}
use Rattle.wrp_servo.specs.Table.{by_tick, ended, ended_by_age, is_old, is_past_gap, is_track, one_tick}
use Rattle.wrp_servo.proofs.HoldoverLaws.{holder, more, off_link, still_few}
use Rattle.wrp_servo.proofs.Tracks.{tracker}
use Rattle.wrp_bound_laws.proofs.Sources.Holding.{IsCalmCall, calm_ticks}

-- What enters TRACK and HOLDOVER

-- a call that is no measurement
abbrev pub IsNoMeasure : Call → Type 0
IsNoMeasure (CallMeasured f y) = ⊥
IsNoMeasure _ = Unit {0}

enters_none : (x : ServoSetting) (calls : List Call) (c : Call) → IsNoMeasure c → enters_track x calls c ≡ true → ⊥
enters_none x calls (CallMeasured f y) h e = absurd h
enters_none x calls (CallSample n base bits) h e = false≢true e
enters_none x calls CallTick h e = false≢true e
enters_none x calls (CallLease fresh) h e = false≢true e
enters_none x calls (CallLink on) h e = false≢true e
enters_none x calls (CallCarrier up) h e = false≢true e
enters_none x calls CallReset h e = false≢true e

tracked_since : TrackSince → (x : ServoSetting) (calls : List Call) (c : Call) (since : List Call) (start : Call) (before : List Call) → IsNoMeasure c → c ∷ calls ≡ since ++ start ∷ before → enters_track x before start ≡ true →
    NoneEnds (leaves_track x) since (start ∷ before) → is_track (run x calls).state ≡ true
tracked_since law x calls c [] start before h e s n =
    let it : (c ≡ start) × (calls ≡ before) = head_and_tail c start calls before e in
    absurd (enters_none x before start (subst IsNoMeasure it.0 h) s)
tracked_since law x calls c (d ∷ since) start before h e s n =
    let it : (c ≡ d) × (calls ≡ since ++ start ∷ before) = head_and_tail c d calls (since ++ start ∷ before) e in
    (law x calls).1 (record { since = since; start = start; before = before; splits = it.1; started = s; stays = n.1 })

-- no other call enters TRACK
pub tracked_before : TrackSince → (x : ServoSetting) (calls : List Call) (c : Call) → IsNoMeasure c → is_track (run x (c ∷ calls)).state ≡ true → is_track (run x calls).state ≡ true
tracked_before law x calls c h e =
    let s : Since (enters_track x) (leaves_track x) (c ∷ calls) = (law x (c ∷ calls)).0 e in
    tracked_since law x calls c s.since s.start s.before h s.splits s.started s.stays

fewer_ticks : (a b holdover : ℕ) → a ≤ b → b < holdover → a < holdover
fewer_ticks a b holdover h k = omega (arith, h, k)

held_since : HoldoverSince → (x : ServoSetting) (calls : List Call) (c : Call) (i : InHoldover x (c ∷ calls)) (since : List Call) → i.since ≡ since → 0 < x.set.holdover → (is_track (run x calls).state ≡ true) ⊎ (is_holdover (run x calls).state ≡ true)
held_since law x calls c i [] e some =
    let it : (c ≡ i.leave) × (calls ≡ i.before) = head_and_tail c i.leave calls i.before (i.splits ∙ ap (λ l. l ++ i.leave ∷ i.before) e) in
    inl (subst (λ l. is_track (run x l).state ≡ true) (sym it.1) i.stood)
held_since law x calls c i (d ∷ since) e some =
    let it : (c ≡ d) × (calls ≡ since ++ i.leave ∷ i.before) = head_and_tail c d calls (since ++ i.leave ∷ i.before) (i.splits ∙ ap (λ l. l ++ i.leave ∷ i.before) e) in
    let few : ticks_among (d ∷ since) < x.set.holdover = subst (λ l. ticks_among l < x.set.holdover) e i.few_ticks in
    inr ((law x calls some).1 (record {
      since = since;
      leave = i.leave;
      before = i.before;
      splits = it.1;
      stood = i.stood;
      left = i.left;
      no_reset = i.no_reset;
      none_since = (subst NoneResets e i.none_since).1;
      few_ticks = fewer_ticks (ticks_among since) (ticks_among (d ∷ since)) x.set.holdover (more d since) few;
    }))

-- before a call that leads to HOLDOVER there was TRACK or HOLDOVER
pub held_before : HoldoverSince → (x : ServoSetting) (calls : List Call) (c : Call) → 0 < x.set.holdover → is_holdover (run x (c ∷ calls)).state ≡ true → (is_track (run x calls).state ≡ true) ⊎ (is_holdover (run x calls).state ≡ true)
held_before law x calls c some e = let i : InHoldover x (c ∷ calls) = (law x (c ∷ calls) some).0 e in held_since law x calls c i i.since refl some

-- A servo in HOLDOVER, which it entered this many ticks ago

pub record OnHold (v : Core) (t : ℕ) : Type 0 where
  pub state : v.state ≡ Holdover
  pub first : v.first ≡ None
  pub ticks : v.ticks ≡ v.left_tick + t
  pub locked : v.phase.lock.locked ≡ false

calm_holder : (x : ServoSetting) (v : Core) (t : ℕ) (c : Call) → IsCalmCall c → v.ticks ≡ v.left_tick + t → v.phase.lock.locked ≡ false → OnHold (after x (holder v) c) t
calm_holder x v t (CallSample n base bits) calm e l =
    elim v.signals.carrier as (λ b. OnHold (cond (b && false) (heard (with_last (holder v) n) n (good_tag v.last n base bits)) (holder v)) t) [
      | true ↦ record { state = refl; first = refl; ticks = e; locked = l }
      | false ↦ record { state = refl; first = refl; ticks = e; locked = l }
    ]
calm_holder x v t (CallMeasured f y) calm e l = record { state = refl; first = refl; ticks = e; locked = l }
calm_holder x v t (CallLease true) calm e l = record { state = refl; first = refl; ticks = e; locked = l }
calm_holder x v t (CallLease false) calm e l = record { state = refl; first = refl; ticks = e; locked = l }
calm_holder x v t (CallLink None) calm e l = record { state = refl; first = refl; ticks = e; locked = l }
calm_holder x v t (CallLink (Some d)) calm e l = record { state = refl; first = refl; ticks = e; locked = l }
calm_holder x v t (CallCarrier true) calm e l = record { state = refl; first = refl; ticks = e; locked = l }
calm_holder x v t (CallCarrier false) calm e l = record { state = refl; first = refl; ticks = e; locked = refl }
calm_holder x v t CallTick calm e l = absurd calm
calm_holder x v t CallReset calm e l = absurd calm

as_holder : (v : Core) → v.state ≡ Holdover → v.first ≡ None → v ≡ holder v
as_holder v e f = λ i. record v { state = e i; first = f i }

pub calm_holds : (x : ServoSetting) (calls : List Call) (c : Call) (t : ℕ) → IsCalmCall c → OnHold (run x calls) t → OnHold (run x (c ∷ calls)) t
calm_holds x calls c t calm h =
    let v : Core = run x calls in
    subst (λ u. OnHold (after x u c) t) (sym (as_holder v h.state h.first)) (calm_holder x v t c calm h.ticks h.locked)

tick_holder : (v : Core) (t : ℕ) (b : Bool) → nat_le v.set.holdover ((v.ticks + 1) - v.left_tick) ≡ b → v.ticks ≡ v.left_tick + t → v.phase.lock.locked ≡ false → is_holdover (cond b (record (one_tick (holder v)) { state = cond (is_some v.signals.link) SyncTai Uninit; phase = restarted v.phase }) (one_tick (holder v))).state ≡ true →
    OnHold (cond b (record (one_tick (holder v)) { state = cond (is_some v.signals.link) SyncTai Uninit; phase = restarted v.phase }) (one_tick (holder v))) (t + 1) × (t + 1 < v.set.holdover)
tick_holder v t true test e l h = absurd (false≢true (sym (off_link (is_some v.signals.link)) ∙ h))
tick_holder v t false test e l h = (record { state = refl; first = refl; ticks = omega (arith, e); locked = l }, still_few v.set.holdover v.ticks v.left_tick t e test)

pub tick_holds : (x : ServoSetting) (calls : List Call) (t : ℕ) → OnHold (run x calls) t → is_holdover (run x (CallTick ∷ calls)).state ≡ true → OnHold (run x (CallTick ∷ calls)) (t + 1) × (t + 1 < (run x calls).set.holdover)
tick_holds x calls t h e =
    let v : Core = run x calls in
    let is : v ≡ holder v = as_holder v h.state h.first in
    subst (λ u. OnHold (by_tick u) (t + 1) × (t + 1 < u.set.holdover)) (sym is)
    (tick_holder v t (nat_le v.set.holdover ((v.ticks + 1) - v.left_tick)) refl h.ticks h.locked (subst (λ u. is_holdover (by_tick u).state ≡ true) is e))

-- Leaving TRACK

-- a call that is no reset
abbrev pub IsNoReset : Call → Type 0
IsNoReset CallReset = ⊥
IsNoReset _ = Unit {0}

-- it is either in TRACK, or on hold since now
abbrev pub TracksOrHolds : Core → Type 0
TracksOrHolds v = (is_track v.state ≡ true) ⊎ OnHold v 0

either-holds : (b : Bool) (v w : Core) → TracksOrHolds v → TracksOrHolds w → TracksOrHolds (cond b v w)
either-holds true v w h k = h
either-holds false v w h k = k

-- the end of a chain in TRACK
abbrev fallen : Core → ℕ → Type 0
fallen v m = OnHold (ended (tracker v m)) 0

falls : (v : Core) (m : ℕ) → fallen v m
falls v m = record { state = refl; first = refl; ticks = is_plus_zero v.ticks; locked = refl }

good-holds : (v : Core) (m n tag : ℕ) → TracksOrHolds (good (with_tag (with_last (tracker v m) n) tag) n)
good-holds v m n tag =
    let w : Core = with_tag (with_last (tracker v m) n) tag in
    let f : Core = followed w in
    either-holds (is_far w.phase.u) (lost w) (judged (chained f n)) (inr (record { state = refl; first = refl; ticks = is_plus_zero w.ticks; locked = refl }))
    (elim f.phase.lock.locked as (λ l. TracksOrHolds (judged (cond l (cond (may_start f) (record f { first = Some n }) f) (ended f)))) [
      | true ↦ either-holds (stays_near f) f (ended f) (inl refl) (inr (record { state = refl; first = refl; ticks = is_plus_zero f.ticks; locked = refl }))
      | false ↦ inr (record { state = refl; first = refl; ticks = is_plus_zero f.ticks; locked = refl })
    ])

heard-holds : (v : Core) (m n : ℕ) (tag : Option ℕ) → TracksOrHolds (heard (with_last (tracker v m) n) n tag)
heard-holds v m n None = inl refl
heard-holds v m n (Some tag) = good-holds v m n tag

tick-holds : (v : Core) (m : ℕ) → TracksOrHolds (by_tick (tracker v m))
tick-holds v m =
    let w : Core = one_tick (tracker v m) in
    elim (is_past_gap w) as (λ g. TracksOrHolds (ended_by_age (cond g (ended w) w))) [
      | true ↦ inr (record { state = refl; first = refl; ticks = is_plus_zero w.ticks; locked = refl })
      | false ↦ either-holds (is_old w) (ended w) w (inr (record { state = refl; first = refl; ticks = is_plus_zero w.ticks; locked = refl })) (inl refl)
    ]

measured-holds : (x : ServoSetting) (v : Core) (m : ℕ) (f : Four) (y : ℤ) (on : Option Deltas) → TracksOrHolds (answered x.lo x.hi (tracker v m) f y on)
measured-holds x v m f y None = inl refl
measured-holds x v m f y (Some d) =
    let k : Measurement = record { four = f; delay = delay_of d y } in
    let w : Core = record (tracker v m) { kept = Some k } in
    either-holds (is_in x.lo x.hi (x_of d f)) (placed (tracker v m) k) (ended (tracker v m))
    (either-holds (is_within v.set.track_tau (residual v.phase k)) (aimed w k Track) (ended w) (inl refl) (inr (record { state = refl; first = refl; ticks = is_plus_zero v.ticks; locked = refl })))
    (inr (falls v m))

tracker-holds : (x : ServoSetting) (v : Core) (m : ℕ) (call : Call) → IsNoReset call → TracksOrHolds (after x (tracker v m) call)
tracker-holds x v m (CallSample n base bits) r =
    either-holds (hears (tracker v m)) (heard (with_last (tracker v m) n) n (good_tag v.last n base bits)) (tracker v m) (heard-holds v m n (good_tag v.last n base bits)) (inl refl)
tracker-holds x v m (CallMeasured f y) r = measured-holds x v m f y v.signals.link
tracker-holds x v m CallTick r = tick-holds v m
tracker-holds x v m (CallLease true) r = inl refl
tracker-holds x v m (CallLease false) r = inr (record { state = refl; first = refl; ticks = is_plus_zero v.ticks; locked = refl })
tracker-holds x v m (CallLink None) r = inr (record { state = refl; first = refl; ticks = is_plus_zero v.ticks; locked = refl })
tracker-holds x v m (CallLink (Some d)) r = inl refl
tracker-holds x v m (CallCarrier true) r = inl refl
tracker-holds x v m (CallCarrier false) r = inr (record { state = refl; first = refl; ticks = is_plus_zero v.ticks; locked = refl })
tracker-holds x v m CallReset r = absurd r

pub state_of_track : (s : ServoState) → is_track s ≡ true → s ≡ Track
state_of_track Track e = refl
state_of_track Uninit e = cc
state_of_track SyncTai e = cc
state_of_track SyncNsec e = cc
state_of_track SyncPhase e = cc
state_of_track WaitStable e = cc
state_of_track Holdover e = cc

first_of : (o : Option ℕ) → is_some o ≡ true → (m : ℕ) × (o ≡ Some m)
first_of None e = absurd (false≢true e)
first_of (Some m) e = (m, refl)

as_tracker : (v : Core) (m : ℕ) → v.state ≡ Track → v.first ≡ Some m → v ≡ tracker v m
as_tracker v m e f = λ i. record v { state = e i; first = f i }

-- a servo in TRACK leaves it only to HOLDOVER, unless it is reset
pub tracked_holds : TrackHasChain → (x : ServoSetting) (calls : List Call) (c : Call) → IsNoReset c → is_track (run x calls).state ≡ true → TracksOrHolds (run x (c ∷ calls))
tracked_holds law x calls c r e =
    let v : Core = run x calls in
    let m : (m : ℕ) × (v.first ≡ Some m) = first_of v.first (law x calls e) in
    subst (λ u. TracksOrHolds (after x u c)) (sym (as_tracker v m.0 (state_of_track v.state e) m.1)) (tracker-holds x v m.0 c r)

-- HOLDOVER as the look-back on it says

not_both : (s : ServoState) → is_track s ≡ true → is_holdover s ≡ true → ⊥
not_both Track e h = false≢true h
not_both Holdover e h = false≢true e
not_both Uninit e h = false≢true e
not_both SyncTai e h = false≢true e
not_both SyncNsec e h = false≢true e
not_both SyncPhase e h = false≢true e
not_both WaitStable e h = false≢true e

calm_or_not : (c : Call) → is_reset c ≡ false → (c ≡ CallTick) ⊎ IsCalmCall c
calm_or_not (CallSample n base bits) e = inr tt
calm_or_not (CallMeasured f y) e = inr tt
calm_or_not CallTick e = inl refl
calm_or_not (CallLease fresh) e = inr tt
calm_or_not (CallLink on) e = inr tt
calm_or_not (CallCarrier up) e = inr tt
calm_or_not CallReset e = absurd (false≢true (sym e))

no_reset : (c : Call) → is_reset c ≡ false → IsNoReset c
no_reset (CallSample n base bits) e = tt
no_reset (CallMeasured f y) e = tt
no_reset CallTick e = tt
no_reset (CallLease fresh) e = tt
no_reset (CallLink on) e = tt
no_reset (CallCarrier up) e = tt
no_reset CallReset e = absurd (false≢true (sym e))

pub record HoldLaws : Type 0 where
  pub held : HoldoverSince
  pub track : TrackSince
  pub chain : TrackHasChain

holds_since : HoldLaws → (x : ServoSetting) (since : List Call) (leave : Call) (before : List Call) → 0 < x.set.holdover → is_track (run x before).state ≡ true → leaves_track x before leave ≡ true → is_reset leave ≡ false → NoneResets since →
    ticks_among since < x.set.holdover → OnHold (run x (since ++ leave ∷ before)) (ticks_among since)
holds_since laws x [] leave before some stood left r none few =
    let h : is_holdover (run x (leave ∷ before)).state ≡ true =
    (laws.held x (leave ∷ before) some).1 (record { since = []; leave = leave; before = before; splits = refl; stood = stood; left = left; no_reset = r; none_since = tt; few_ticks = few }) in
    elim (tracked_holds laws.chain x before leave (no_reset leave r) stood) [
      | inl track ↦ absurd (not_both (run x (leave ∷ before)).state track h)
      | inr hold ↦ hold
    ]
holds_since laws x (c ∷ since) leave before some stood left r none few =
    let calls : List Call = since ++ leave ∷ before in
    let less : ticks_among since < x.set.holdover = fewer_ticks (ticks_among since) (ticks_among (c ∷ since)) x.set.holdover (more c since) few in
    let known : OnHold (run x calls) (ticks_among since) = holds_since laws x since leave before some stood left r none.1 less in
    let h : is_holdover (run x (c ∷ calls)).state ≡ true =
    (laws.held x (c ∷ calls) some).1 (record { since = c ∷ since; leave = leave; before = before; splits = refl; stood = stood; left = left; no_reset = r; none_since = none; few_ticks = few }) in
    elim (calm_or_not c none.0) [
      | inl tick ↦
          subst (λ d. OnHold (run x (d ∷ calls)) (ticks_among (d ∷ since))) (sym tick)
          (tick_holds x calls (ticks_among since) known (subst (λ d. is_holdover (run x (d ∷ calls)).state ≡ true) tick h)).0
      | inr calm ↦ subst (OnHold (run x (c ∷ calls))) (sym (calm_ticks c since calm)) (calm_holds x calls c (ticks_among since) calm known)
    ]

-- it has been on hold for fewer ticks than HOLDOVER lasts
pub on_hold : HoldLaws → (x : ServoSetting) (calls : List Call) → 0 < x.set.holdover → is_holdover (run x calls).state ≡ true → (t : ℕ) × OnHold (run x calls) t × (t < x.set.holdover)
on_hold laws x calls some h =
    let i : InHoldover x calls = (laws.held x calls some).0 h in (
      ticks_among i.since,
      subst (λ l. OnHold (run x l) (ticks_among i.since)) (sym i.splits) (holds_since laws x i.since i.leave i.before some i.stood i.left i.no_reset i.none_since i.few_ticks),
      i.few_ticks,
    )

-- this holds for only one number of ticks
pub one_hold : (v : Core) (a b : ℕ) → OnHold v a → OnHold v b → a ≡ b
one_hold v a b h k = same v.ticks v.left_tick a b h.ticks k.ticks
  where
    same : (t l a b : ℕ) → t ≡ l + a → t ≡ l + b → a ≡ b
    same t l a b e f = omega (arith, e, f)

-- what a tick of HOLDOVER may leave
pub record IsTicked (v : Core) (t : ℕ) : Type 0 where
  pub track : is_track v.state ≡ true → ⊥
  pub held : is_holdover v.state ≡ true → OnHold v t

pub ticked_first : HoldLaws → (x : ServoSetting) (calls : List Call) (t : ℕ) → OnHold (run x calls) t → IsTicked (run x (CallTick ∷ calls)) (t + 1)
ticked_first laws x calls t h = record {
  track = λ e. not_both (run x calls).state (tracked_before laws.track x calls CallTick tt e) (ap is_holdover h.state);
  held = λ e. (tick_holds x calls t h e).0;
}

pub ticked_stays : HoldLaws → (x : ServoSetting) → 0 < x.set.holdover → (calls : List Call) (c : Call) (t : ℕ) → IsNoMeasure c → IsCalmCall c → IsTicked (run x calls) t → IsTicked (run x (c ∷ calls)) t
ticked_stays laws x some calls c t h calm k = record {
  track = λ e. k.track (tracked_before laws.track x calls c h e);
  held = λ e. elim (held_before laws.held x calls c some e) [ inl track ↦ absurd (k.track track) | inr held ↦ calm_holds x calls c t calm (k.held held) ];
}
