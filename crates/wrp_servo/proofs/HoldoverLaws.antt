-- HOLDOVER is entered from TRACK alone, and left at its last tick or by a reset.
use Rattle.std.proofs.Common.{◌≡◌, refl, ap, ◌∙◌, sym, ℕ, ℤ, ◌+◌, ◌-◌, ◌<◌, ◌≤◌, Bool, true, false, cond, not, ◌&&◌, nat_le, is_some, Option, None, Some, List, [], ◌∷◌, ◌++◌, subst, arith}
use Rattle.std.proofs.lemmas.Bool.Decides.{nat_tests}
use Rattle.std.proofs.lemmas.Bool.{not-false}
use Rattle.wrp_base.specs.declared.link.Deltas.{Deltas}
use Rattle.wrp_base.specs.declared.link.ServoState.{ServoState}
use Rattle.wrp_base.specs.declared.link.ServoState.TheVariants.{Uninit, SyncTai, SyncNsec, SyncPhase, WaitStable, Track, Holdover}
use Rattle.wrp_base.specs.declared.measurement.Four.{Four}
use Rattle.wrp_base.proofs.Naturals.{is_plus_zero}
use Rattle.wrp_servo.specs.declared.interface.ServoSet.{ServoSet}
use Rattle.wrp_servo.specs.declared.machine.Measurement.{Measurement}
use Rattle.wrp_servo.specs.declared.machine.Core.{Core}
use Rattle.wrp_servo.specs.Following.{restarted}
use Rattle.wrp_servo.specs.Table.{is_track, is_past_gap, is_old, one_tick, ended, ended_by_age, by_tick}
use Rattle.wrp_servo.specs.Sampling.{hears, is_holdover, good_tag, is_far, is_within, residual, with_tag, with_last, followed, stays_near, judged, chained, may_start, good, heard, lost}
use Rattle.wrp_servo.specs.Measuring.{is_in, x_of, delay_of, answered, placed, aimed}
use Rattle.wrp_servo.specs.Call.{Call, CallSample, CallMeasured, CallTick, CallLease, CallLink, CallCarrier, CallReset, ServoSetting, after, run, is_reset}
use Rattle.wrp_servo.specs.LookBack.{enters_track, leaves_track}
use Rattle.wrp_servo.specs.Holdover.{ticks_among, NoneResets, InHoldover, HoldoverSince}
use Rattle.wrp_servo.proofs.Tracks.{tracker, stands}
use Rattle.wrp_servo.proofs.BothLaws.{next-seen}
use Rattle.wrp_servo.proofs.Gone.{set_is}
use Rattle.wrp_servo.proofs.Locked.{chain_stays_held}
use Rattle.wrp_servo.proofs.Outside.{out, call-low}

-- the state is HOLDOVER, n ticks after TRACK was left
record Held (v : Core) (n : ℕ) : Type 0 where
  state : is_holdover v.state ≡ true
  ticks : v.ticks ≡ v.left_tick + n

-- ---- where TRACK is left, HOLDOVER begins

abbrev Falls : Core → Type 0
Falls v = is_track v.state ≡ false → Held v 0

either-falls : (b : Bool) (v w : Core) → Falls v → Falls w → Falls (cond b v w)
either-falls true v w h k = h
either-falls false v w h k = k

-- the state stays TRACK
up : (v : Core) → is_track v.state ≡ true → Falls v
up v h e = absurd cc

good-falls : (v : Core) (m n tag : ℕ) → Falls (good (with_tag (with_last (tracker v m) n) tag) n)
good-falls v m n tag =
    let w : Core = with_tag (with_last (tracker v m) n) tag in
    let f : Core = followed w in
    either-falls (is_far w.phase.u) (lost w) (judged (chained f n)) (λ e. record { state = refl; ticks = is_plus_zero w.ticks })
    (elim f.phase.lock.locked as (λ l. Falls (judged (cond l (cond (may_start f) (record f { first = Some n }) f) (ended f)))) [
      | true ↦ either-falls (stays_near f) f (ended f) (up f refl) (λ e. record { state = refl; ticks = is_plus_zero f.ticks })
      | false ↦ λ e. record { state = refl; ticks = is_plus_zero f.ticks }
    ])

heard-falls : (v : Core) (m n : ℕ) (tag : Option ℕ) → Falls (heard (with_last (tracker v m) n) n tag)
heard-falls v m n None = up _ refl
heard-falls v m n (Some tag) = good-falls v m n tag

tick-falls : (v : Core) (m : ℕ) → Falls (by_tick (tracker v m))
tick-falls v m =
    let w : Core = one_tick (tracker v m) in
    elim (is_past_gap w) as (λ g. Falls (ended_by_age (cond g (ended w) w))) [
      | true ↦ λ e. record { state = refl; ticks = is_plus_zero w.ticks }
      | false ↦ either-falls (is_old w) (ended w) w (λ e. record { state = refl; ticks = is_plus_zero w.ticks }) (up w refl)
    ]

measured-falls : (x : ServoSetting) (v : Core) (m : ℕ) (f : Four) (y : ℤ) (on : Option Deltas) → Falls (answered x.lo x.hi (tracker v m) f y on)
measured-falls x v m f y None = up _ refl
measured-falls x v m f y (Some d) =
    let k : Measurement = record { four = f; delay = delay_of d y } in
    let w : Core = record (tracker v m) { kept = Some k } in
    either-falls (is_in x.lo x.hi (x_of d f)) (placed (tracker v m) k) (ended (tracker v m))
    (either-falls (is_within v.set.track_tau (residual v.phase k)) (aimed w k Track) (ended w) (up _ refl) (λ e. record { state = refl; ticks = is_plus_zero w.ticks }))
    (λ e. record { state = refl; ticks = is_plus_zero v.ticks })

call-falls : (x : ServoSetting) (v : Core) (m : ℕ) (call : Call) → is_reset call ≡ false → Falls (after x (tracker v m) call)
call-falls x v m (CallSample n base bits) r =
    either-falls (hears (tracker v m)) (heard (with_last (tracker v m) n) n (good_tag v.last n base bits)) (tracker v m) (heard-falls v m n (good_tag v.last n base bits)) (up _ refl)
call-falls x v m (CallMeasured f y) r = measured-falls x v m f y v.signals.link
call-falls x v m CallTick r = tick-falls v m
call-falls x v m (CallLease true) r = up _ refl
call-falls x v m (CallLease false) r = λ e. record { state = refl; ticks = is_plus_zero v.ticks }
call-falls x v m (CallLink None) r = λ e. record { state = refl; ticks = is_plus_zero v.ticks }
call-falls x v m (CallLink (Some d)) r = up _ refl
call-falls x v m (CallCarrier true) r = up _ refl
call-falls x v m (CallCarrier false) r = λ e. record { state = refl; ticks = is_plus_zero v.ticks }
call-falls x v m CallReset r = absurd cc

falls-at : (x : ServoSetting) (v : Core) (s : ServoState) (first : Option ℕ) (call : Call) → is_track s ≡ true → (is_track s ≡ true → is_some first ≡ true) → is_reset call ≡ false →
    is_track (after x (record v { state = s; first = first }) call).state ≡ false → Held (after x (record v { state = s; first = first }) call) 0
falls-at x v Track (Some m) call t h r e = call-falls x v m call r e
falls-at x v Track None call t h r e = absurd (let n : false ≡ true = h refl in cc)
falls-at x v Uninit first call t h r e = absurd cc
falls-at x v SyncTai first call t h r e = absurd cc
falls-at x v SyncNsec first call t h r e = absurd cc
falls-at x v SyncPhase first call t h r e = absurd cc
falls-at x v WaitStable first call t h r e = absurd cc
falls-at x v Holdover first call t h r e = absurd cc

-- ---- the state stays HOLDOVER except at its last tick

abbrev pub holder : Core → Core
holder v = record v { state = Holdover; first = None }

early : (holdover ticks left n : ℕ) → ticks ≡ left + n → n + 1 < holdover → nat_le holdover ((ticks + 1) - left) ≡ false
early holdover ticks left n t few =
    let gone : (ticks + 1) - left < holdover = omega arith in
    grind (arith, nat_tests)

tick-stays : (v : Core) (n : ℕ) → v.ticks ≡ v.left_tick + n → n + 1 < v.set.holdover → Held (by_tick (holder v)) (n + 1)
tick-stays v n t few =
    let w : Core = one_tick (holder v) in
    let test : nat_le v.set.holdover ((v.ticks + 1) - v.left_tick) ≡ false = early v.set.holdover v.ticks v.left_tick n t few in
    subst (λ (b : Bool). Held (cond b (record w { state = cond (is_some w.signals.link) SyncTai Uninit; phase = restarted w.phase }) w) (n + 1)) (sym test)
    (record { state = refl; ticks = omega arith })

call-stays : (x : ServoSetting) (v : Core) (call : Call) (since : List Call) → is_reset call ≡ false → v.ticks ≡ v.left_tick + ticks_among since → ticks_among (call ∷ since) < v.set.holdover →
    Held (after x (holder v) call) (ticks_among (call ∷ since))
call-stays x v (CallSample n base bits) since r t few =
    elim v.signals.carrier as (λ b. Held (cond (b && false) (heard (with_last (holder v) n) n (good_tag v.last n base bits)) (holder v)) (ticks_among since)) [
      | true ↦ record { state = refl; ticks = t }
      | false ↦ record { state = refl; ticks = t }
    ]
call-stays x v CallTick since r t few = tick-stays v (ticks_among since) t few
call-stays x v (CallLease true) since r t few = record { state = refl; ticks = t }
call-stays x v (CallLease false) since r t few = record { state = refl; ticks = t }
call-stays x v (CallLink None) since r t few = record { state = refl; ticks = t }
call-stays x v (CallLink (Some d)) since r t few = record { state = refl; ticks = t }
call-stays x v (CallCarrier true) since r t few = record { state = refl; ticks = t }
call-stays x v (CallCarrier false) since r t few = record { state = refl; ticks = t }
call-stays x v (CallMeasured f y) since r t few = record { state = refl; ticks = t }
call-stays x v CallReset since r t few = absurd cc

stays-at : (x : ServoSetting) (v : Core) (s : ServoState) (first : Option ℕ) (call : Call) (since : List Call) → is_holdover s ≡ true → (is_some first ≡ true → is_holdover s ≡ false) → is_reset call ≡ false →
    v.ticks ≡ v.left_tick + ticks_among since → ticks_among (call ∷ since) < v.set.holdover → Held (after x (record v { state = s; first = first }) call) (ticks_among (call ∷ since))
stays-at x v Holdover None call since t h r e few = call-stays x v call since r e few
stays-at x v Holdover (Some m) call since t h r e few = absurd (let n : true ≡ false = h refl in cc)
stays-at x v Track first call since t h r e few = absurd cc
stays-at x v Uninit first call since t h r e few = absurd cc
stays-at x v SyncTai first call since t h r e few = absurd cc
stays-at x v SyncNsec first call since t h r e few = absurd cc
stays-at x v SyncPhase first call since t h r e few = absurd cc
stays-at x v WaitStable first call since t h r e few = absurd cc

-- if the state is HOLDOVER after a call, that call was not its last tick
either-low : (b : Bool) (v w : Core) → is_holdover v.state ≡ false → is_holdover (cond b v w).state ≡ true → b ≡ false
either-low true v w h e = absurd cc
either-low false v w h e = refl

pub off_link : (b : Bool) → is_holdover (cond b SyncTai Uninit) ≡ false
off_link true = refl
off_link false = refl

pub still_few : (holdover ticks left n : ℕ) → ticks ≡ left + n → nat_le holdover ((ticks + 1) - left) ≡ false → n + 1 < holdover
still_few holdover ticks left n t test =
    let below : (ticks + 1) - left < holdover = grind (arith, nat_tests) in
    omega arith

few-at : (x : ServoSetting) (v : Core) (s : ServoState) (call : Call) (since : List Call) → is_holdover s ≡ true →
    v.ticks ≡ v.left_tick + ticks_among since → ticks_among since < v.set.holdover → is_holdover (after x (record v { state = s }) call).state ≡ true → ticks_among (call ∷ since) < v.set.holdover
few-at x v Holdover CallTick since t e few h =
    let w : Core = one_tick (record v { state = Holdover }) in
    still_few v.set.holdover v.ticks v.left_tick (ticks_among since) e
    (either-low (nat_le v.set.holdover ((v.ticks + 1) - v.left_tick)) (record w { state = cond (is_some w.signals.link) SyncTai Uninit; phase = restarted w.phase }) w (off_link (is_some v.signals.link)) h)
few-at x v Track CallTick since t e few h = absurd cc
few-at x v Uninit CallTick since t e few h = absurd cc
few-at x v SyncTai CallTick since t e few h = absurd cc
few-at x v SyncNsec CallTick since t e few h = absurd cc
few-at x v SyncPhase CallTick since t e few h = absurd cc
few-at x v WaitStable CallTick since t e few h = absurd cc
few-at x v s (CallSample n base bits) since t e few h = few
few-at x v s (CallMeasured f y) since t e few h = few
few-at x v s (CallLease fresh) since t e few h = few
few-at x v s (CallLink on) since t e few h = few
few-at x v s (CallCarrier up) since t e few h = few
few-at x v s CallReset since t e few h = few

-- ---- over a list of calls

held_state : (x : ServoSetting) (calls : List Call) → is_some (run x calls).first ≡ true → is_holdover (run x calls).state ≡ false
held_state x calls h = (chain_stays_held x calls h).state

pub more : (call : Call) (since : List Call) → ticks_among since ≤ ticks_among (call ∷ since)
more CallTick since = omega arith
more (CallSample n base bits) since = omega arith
more (CallMeasured f y) since = omega arith
more (CallLease fresh) since = omega arith
more (CallLink on) since = omega arith
more (CallCarrier up) since = omega arith
more CallReset since = omega arith

-- from the call that left TRACK on, the state is HOLDOVER
holds : (x : ServoSetting) (since : List Call) (leave : Call) (before : List Call) → is_track (run x before).state ≡ true → leaves_track x before leave ≡ true → is_reset leave ≡ false →
    NoneResets since → ticks_among since < x.set.holdover → Held (run x (since ++ leave ∷ before)) (ticks_among since)
holds x [] leave before stood left no_reset none few =
    let v : Core = run x before in
    let off : is_track (after x v leave).state ≡ false =
    next-seen x before leave
    ∙ ap (λ (b : Bool). cond b (not (leaves_track x before leave)) (enters_track x before leave)) stood
    ∙ ap not left in
    falls-at x v v.state v.first leave stood (stands x before).chain no_reset off
holds x (call ∷ since) leave before stood left no_reset none few =
    let calls : List Call = since ++ leave ∷ before in
    let v : Core = run x calls in
    let less : ticks_among since ≤ ticks_among (call ∷ since) = more call since in
    let known : Held v (ticks_among since) = holds x since leave before stood left no_reset none.1 (omega arith) in
    let few_here : ticks_among (call ∷ since) < v.set.holdover = subst (λ (s : ServoSet). ticks_among (call ∷ since) < s.holdover) (sym (set_is x calls)) few in
    stays-at x v v.state v.first call since known.state (held_state x calls) none.0 known.ticks few_here

-- what leads to HOLDOVER
data Way (x : ServoSetting) (calls : List Call) (call : Call) : Type 0 where
  Left : is_track (run x calls).state ≡ true → leaves_track x calls call ≡ true → is_reset call ≡ false → Way x calls call
  Stays : is_holdover (run x calls).state ≡ true → is_reset call ≡ false → Way x calls call

no_reset_to : (x : ServoSetting) (v : Core) (call : Call) → is_holdover (after x v call).state ≡ true → is_reset call ≡ false
no_reset_to x v CallReset h = absurd cc
no_reset_to x v (CallSample n base bits) h = refl
no_reset_to x v (CallMeasured f y) h = refl
no_reset_to x v CallTick h = refl
no_reset_to x v (CallLease fresh) h = refl
no_reset_to x v (CallLink on) h = refl
no_reset_to x v (CallCarrier up) h = refl

off_track : (s : ServoState) → is_holdover s ≡ true → is_track s ≡ false
off_track Holdover h = refl
off_track Track h = absurd cc
off_track _ h = refl

low : (x : ServoSetting) (calls : List Call) (call : Call) (s : ServoState) → (run x calls).state ≡ s → out s ≡ true → is_holdover (run x (call ∷ calls)).state ≡ true → ⊥
low x calls call s e o h =
    let v : Core = run x calls in
    let no : is_holdover (after x v call).state ≡ false = call-low x v v.state v.first call (ap out e ∙ o) in
    absurd cc

way : (x : ServoSetting) (calls : List Call) (call : Call) (s : ServoState) → (run x calls).state ≡ s → is_holdover (run x (call ∷ calls)).state ≡ true → Way x calls call
way x calls call Track e h =
    let v : Core = run x calls in
    let stood : is_track v.state ≡ true = ap is_track e in
    let stays : not (leaves_track x calls call) ≡ false =
    sym (ap (λ (b : Bool). cond b (not (leaves_track x calls call)) (enters_track x calls call)) stood)
    ∙ sym (next-seen x calls call)
    ∙ off_track (after x v call).state h in
    Left stood (not-false (leaves_track x calls call) stays) (no_reset_to x v call h)
way x calls call Holdover e h = Stays (ap is_holdover e) (no_reset_to x (run x calls) call h)
way x calls call Uninit e h = absurd (low x calls call Uninit e refl h)
way x calls call SyncTai e h = absurd (low x calls call SyncTai e refl h)
way x calls call SyncNsec e h = absurd (low x calls call SyncNsec e refl h)
way x calls call SyncPhase e h = absurd (low x calls call SyncPhase e refl h)
way x calls call WaitStable e h = absurd (low x calls call WaitStable e refl h)

extends : (x : ServoSetting) (calls : List Call) (call : Call) → is_holdover (run x calls).state ≡ true → is_reset call ≡ false → is_holdover (run x (call ∷ calls)).state ≡ true → InHoldover x calls → InHoldover x (call ∷ calls)
extends x calls call stood r h i =
    let v : Core = run x calls in
    let known : Held v (ticks_among i.since) =
    subst (λ (l : List Call). Held (run x l) (ticks_among i.since)) (sym i.splits) (holds x i.since i.leave i.before i.stood i.left i.no_reset i.none_since i.few_ticks) in
    let few : ticks_among i.since < v.set.holdover = subst (λ (s : ServoSet). ticks_among i.since < s.holdover) (sym (set_is x calls)) i.few_ticks in
    record {
      since = call ∷ i.since;
      leave = i.leave;
      before = i.before;
      splits = ap (λ (l : List Call). call ∷ l) i.splits;
      stood = i.stood;
      left = i.left;
      no_reset = i.no_reset;
      none_since = (r, i.none_since);
      few_ticks = subst (λ (s : ServoSet). ticks_among (call ∷ i.since) < s.holdover) (set_is x calls) (few-at x v v.state call i.since stood known.ticks few h);
    }

goes : (x : ServoSetting) (calls : List Call) → 1 ≤ x.set.holdover → is_holdover (run x calls).state ≡ true → InHoldover x calls
goes x [] least h = absurd cc
goes x (call ∷ calls) least h =
    elim (way x calls call (run x calls).state refl h) as (λ _. InHoldover x (call ∷ calls)) [
      | Left stood left r ↦ record { since = []; leave = call; before = calls; splits = refl; stood = stood; left = left; no_reset = r; none_since = tt; few_ticks = omega arith }
      | Stays stood r ↦ extends x calls call stood r h (goes x calls least stood)
    ]

pub holdover_stands_since : HoldoverSince
holdover_stands_since x calls least = (
  λ h. goes x calls least h,
  λ i. subst (λ (l : List Call). is_holdover (run x l).state ≡ true) (sym i.splits) (holds x i.since i.leave i.before i.stood i.left i.no_reset i.none_since i.few_ticks).state,
)
