-- The chain and TRACK over a list of calls, looking back.
use Rattle.std.proofs.Common.{◌≡◌, refl, ap, ◌∙◌, sym, ◌↔◌, ℕ, ℤ, Bool, true, false, cond, not, ◌&&◌, ◌||◌, is_some, Option, None, Some, List, subst, ◌∷◌}
use Rattle.wrp_base.specs.declared.link.Deltas.{Deltas}
use Rattle.wrp_base.specs.declared.link.ServoState.{ServoState}
use Rattle.wrp_base.specs.declared.link.ServoState.TheVariants.{Uninit, SyncTai, SyncNsec, SyncPhase, WaitStable, Track, Holdover}
use Rattle.wrp_base.specs.declared.measurement.Four.{Four}
use Rattle.wrp_servo.specs.declared.machine.Measurement.{Measurement}
use Rattle.wrp_servo.specs.declared.machine.Core.{Core}
use Rattle.wrp_servo.specs.Table.{is_track, is_past_gap, is_old, one_tick, ended, ended_by_age, by_tick}
use Rattle.wrp_servo.specs.Sampling.{hears, good_tag, is_far, is_calm, is_near, is_within, residual, with_tag, with_last, followed, stays_near, judged, chained, may_start, good, heard, lost}
use Rattle.wrp_servo.specs.Measuring.{deltas_in_chain, is_in, x_of, delay_of, answered, placed, aimed}
use Rattle.wrp_servo.specs.Call.{Call, CallSample, CallMeasured, CallTick, CallLease, CallLink, CallCarrier, CallReset, ServoSetting, after, run}
use Rattle.wrp_servo.specs.Tracking.{enters, enters_by, is_wait_stable}
use Rattle.wrp_servo.proofs.Leaving.{leaves, leaves_at, leaves_by}
use Rattle.wrp_servo.specs.Chain.{unlocks, is_outside, steps, strays, strays_by, ends, strays_at, starts, ends_chain}
use Rattle.wrp_servo.specs.LookBack.{chain_starts, chain_ends, enters_track, leaves_track, seen}
use Rattle.wrp_servo.specs.Since.{Since}
use Rattle.wrp_servo.proofs.Tracks.{Ends, tracker, call-track, call-at, stands}
use Rattle.wrp_servo.proofs.ChainLaws.{call-other}
use Rattle.wrp_servo.proofs.SeenLaws.{seen-is}
use Rattle.wrp_servo.proofs.SinceLaws.{Runs, stands_since}

-- ---- in TRACK the chain lasts exactly as long as TRACK does

abbrev Same : Core → Type 0
Same v = is_some v.first ≡ is_track v.state

either-same : (b : Bool) (v w : Core) → Same v → Same w → Same (cond b v w)
either-same true v w h k = h
either-same false v w h k = k

good-same : (v : Core) (m n tag : ℕ) → Same (good (with_tag (with_last (tracker v m) n) tag) n)
good-same v m n tag =
    let w : Core = with_tag (with_last (tracker v m) n) tag in
    let f : Core = followed w in
    either-same (is_far w.phase.u) (lost w) (judged (chained f n)) refl
    (elim f.phase.lock.locked as (λ l. Same (judged (cond l (cond (may_start f) (record f { first = Some n }) f) (ended f)))) [
      | true ↦ either-same (stays_near f) f (ended f) refl refl
      | false ↦ refl
    ])

heard-same : (v : Core) (m n : ℕ) (tag : Option ℕ) → Same (heard (with_last (tracker v m) n) n tag)
heard-same v m n None = refl
heard-same v m n (Some tag) = good-same v m n tag

tick-same : (v : Core) (m : ℕ) → Same (by_tick (tracker v m))
tick-same v m =
    let w : Core = one_tick (tracker v m) in
    elim (is_past_gap w) as (λ g. Same (ended_by_age (cond g (ended w) w))) [
      | true ↦ refl
      | false ↦ either-same (is_old w) (ended w) w refl refl
    ]

measured-same : (x : ServoSetting) (v : Core) (m : ℕ) (f : Four) (y : ℤ) (on : Option Deltas) → Same (answered x.lo x.hi (tracker v m) f y on)
measured-same x v m f y None = refl
measured-same x v m f y (Some d) =
    let k : Measurement = record { four = f; delay = delay_of d y } in
    let w : Core = record (tracker v m) { kept = Some k } in
    either-same (is_in x.lo x.hi (x_of d f)) (placed (tracker v m) k) (ended (tracker v m))
    (either-same (is_within v.set.track_tau (residual v.phase k)) (aimed w k Track) (ended w) refl refl)
    refl

call-same : (x : ServoSetting) (v : Core) (m : ℕ) (call : Call) → Same (after x (tracker v m) call)
call-same x v m (CallSample n base bits) =
    either-same (hears (tracker v m)) (heard (with_last (tracker v m) n) n (good_tag v.last n base bits)) (tracker v m) (heard-same v m n (good_tag v.last n base bits)) refl
call-same x v m (CallMeasured f y) = measured-same x v m f y v.signals.link
call-same x v m CallTick = tick-same v m
call-same x v m (CallLease true) = refl
call-same x v m (CallLease false) = refl
call-same x v m (CallLink None) = refl
call-same x v m (CallLink (Some d)) = refl
call-same x v m (CallCarrier true) = refl
call-same x v m (CallCarrier false) = refl
call-same x v m CallReset = refl

-- ---- what leaves TRACK is an end of the chain or a cause of its own

split_or : (h a b c d : Bool) → (h && (a || (b || (c || d)))) ≡ ((h && (a || b)) || (h && (c || d)))
split_or false a b c d = refl
split_or true true b c d = refl
split_or true false true c d = refl
split_or true false false c d = refl

sample-leaves : (v : Core) (h : Bool) (tag : Option ℕ) → (h && leaves_at v tag) ≡ ((h && unlocks v tag) || (h && strays v tag))
sample-leaves v true None = refl
sample-leaves v false None = refl
sample-leaves v h (Some tag) =
    let f : Core = followed (with_tag v tag) in
    split_or h (is_far (with_tag v tag).phase.u) (not f.phase.lock.locked) (not (is_calm f)) (not (is_near v.set.track_tau f.phase v.kept))

or_none : (i n : Bool) → (not i || not n) ≡ ((not i || (i && false)) || not n)
or_none true n = refl
or_none false n = refl

measured-leaves : (x : ServoSetting) (v : Core) (m : ℕ) (f : Four) (y : ℤ) (on : Option Deltas) →
    leaves_by x (tracker v m) f y on ≡ ((is_outside x f on || steps x (tracker v m) f y on) || strays_by x (tracker v m) f y on)
measured-leaves x v m f y None = refl
measured-leaves x v m f y (Some d) = or_none (is_in x.lo x.hi (x_of d f)) (is_within v.set.track_tau (residual v.phase (record { four = f; delay = delay_of d y })))

or_false : (b : Bool) → b ≡ (b || false)
or_false true = refl
or_false false = refl

call-leaves : (x : ServoSetting) (v : Core) (m : ℕ) (call : Call) → leaves x (tracker v m) call ≡ (ends x (tracker v m) call || strays_at x (tracker v m) call)
call-leaves x v m (CallSample n base bits) = sample-leaves (tracker v m) (hears (tracker v m)) (good_tag v.last n base bits)
call-leaves x v m (CallMeasured f y) = measured-leaves x v m f y v.signals.link
call-leaves x v m CallTick = refl
call-leaves x v m (CallLease fresh) = or_false (not fresh)
call-leaves x v m (CallLink on) = or_false (not (is_some on))
call-leaves x v m (CallCarrier up) = or_false (not up)
call-leaves x v m CallReset = refl

-- ---- nothing enters TRACK while the state is TRACK

is_track-of : (s : ServoState) → is_track s ≡ true → is_wait_stable s ≡ false
is_track-of Track h = refl
is_track-of WaitStable h = cc
is_track-of _ h = refl

enters_by-of : (x : ServoSetting) (v : Core) (f : Four) (y : ℤ) (on : Option Deltas) → is_track v.state ≡ true → enters_by x v f y on ≡ false
enters_by-of x v f y None h = refl
enters_by-of x v f y (Some d) h = rw (is_track-of v.state h) refl

enters-of : (x : ServoSetting) (v : Core) (call : Call) → is_track v.state ≡ true → enters x v call ≡ false
enters-of x v (CallMeasured f y) h = enters_by-of x v f y (deltas_in_chain v) h
enters-of x v _ h = refl

-- ---- any call

pub record Next (x : ServoSetting) (v : Core) (call : Call) : Type 0 where
  pub track : is_track (after x v call).state ≡ cond (is_track v.state) (not (ends x v call || strays_at x v call)) (enters x v call)
  pub chain : is_some (after x v call).first ≡ cond (is_some v.first) (not (ends_chain x v call)) (starts x v call)

next-track : (x : ServoSetting) (v : Core) (m : ℕ) (call : Call) → Next x (tracker v m) call
next-track x v m call =
    let known : Ends (after x (tracker v m) call) (not (leaves x (tracker v m) call)) = call-track x v m call in
    let t : is_track (after x (tracker v m) call).state ≡ not (ends x (tracker v m) call || strays_at x (tracker v m) call) = known.track ∙ ap not (call-leaves x v m call) in
    record { track = t; chain = call-same x v m call ∙ t }

next-other : (x : ServoSetting) (v : Core) (s : ServoState) (first : Option ℕ) (call : Call) → is_track s ≡ false →
    is_track (after x (record v { state = s; first = first }) call).state ≡ cond (is_track s) (not (leaves x (record v { state = s; first = first }) call)) (enters x (record v { state = s; first = first }) call) →
    Next x (record v { state = s; first = first }) call
next-other x v s first call h e =
    record {
      track = subst (λ (b : Bool). is_track (after x (record v { state = s; first = first }) call).state ≡ cond b (not (ends x (record v { state = s; first = first }) call || strays_at x (record v { state = s; first = first }) call)) (enters x (record v { state = s; first = first }) call)) (sym h)
          (subst (λ (b : Bool). is_track (after x (record v { state = s; first = first }) call).state ≡ cond b (not (leaves x (record v { state = s; first = first }) call)) (enters x (record v { state = s; first = first }) call)) h e);
      chain = call-other x v s first call h;
    }

next-at : (x : ServoSetting) (v : Core) (s : ServoState) (first : Option ℕ) (call : Call) → (is_track s ≡ true → is_some first ≡ true) → Next x (record v { state = s; first = first }) call
next-at x v Track None call h = absurd (let e : false ≡ true = h refl in cc)
next-at x v Track (Some m) call h = next-track x v m call
next-at x v Uninit first call h = next-other x v Uninit first call refl (call-at x v Uninit first call h).track
next-at x v SyncTai first call h = next-other x v SyncTai first call refl (call-at x v SyncTai first call h).track
next-at x v SyncNsec first call h = next-other x v SyncNsec first call refl (call-at x v SyncNsec first call h).track
next-at x v SyncPhase first call h = next-other x v SyncPhase first call refl (call-at x v SyncPhase first call h).track
next-at x v WaitStable first call h = next-other x v WaitStable first call refl (call-at x v WaitStable first call h).track
next-at x v Holdover first call h = next-other x v Holdover first call refl (call-at x v Holdover first call h).track

pub next : (x : ServoSetting) (calls : List Call) (call : Call) → Next x (run x calls) call
next x calls call = next-at x (run x calls) (run x calls).state (run x calls).first call (stands x calls).chain

-- the same, asked of what looking back finds
pub next-seen : (x : ServoSetting) (calls : List Call) (call : Call) → is_track (run x (call ∷ calls)).state ≡ cond (is_track (run x calls).state) (not (leaves_track x calls call)) (enters_track x calls call)
next-seen x calls call =
    subst (λ (v : Core). is_track (run x (call ∷ calls)).state ≡ cond (is_track (run x calls).state) (not (ends x v call || strays_at x v call)) (enters x v call)) (seen-is x calls)
    (next x calls call).track

tracks : (x : ServoSetting) → Runs (enters_track x) (leaves_track x) (λ calls. is_track (run x calls).state)
tracks x = record {
  first = refl;
  next = λ call calls. next-seen x calls call;
  apart = λ call calls h e.
      let n : enters x (run x calls) call ≡ false = enters-of x (run x calls) call h in
      let m : enters x (seen x calls) call ≡ false = subst (λ (v : Core). enters x v call ≡ false) (seen-is x calls) n in
      absurd cc;
}

-- the state is TRACK if and only if a call enters it and no later call leaves it
pub track_stands_since : (x : ServoSetting) (calls : List Call) → (is_track (run x calls).state ≡ true) ↔ Since (enters_track x) (leaves_track x) calls
track_stands_since x calls = stands_since (enters_track x) (leaves_track x) (λ c. is_track (run x c).state) (tracks x) calls

-- in TRACK there is a chain
pub track_holds_chain : (x : ServoSetting) (calls : List Call) → is_track (run x calls).state ≡ true → is_some (run x calls).first ≡ true
track_holds_chain x calls = (stands x calls).chain

none_stands : (b p q : Bool) → cond b p q ≡ cond b p (not b && q)
none_stands true p q = refl
none_stands false p q = refl

not_both : (b q : Bool) (A : Type 0) → b ≡ true → (not b && q) ≡ true → A
not_both true q A h e = absurd cc
not_both false q A h e = absurd cc

next-chain : (x : ServoSetting) (calls : List Call) (call : Call) → is_some (run x (call ∷ calls)).first ≡ cond (is_some (run x calls).first) (not (chain_ends x calls call)) (starts x (seen x calls) call)
next-chain x calls call =
    subst (λ (v : Core). is_some (run x (call ∷ calls)).first ≡ cond (is_some (run x calls).first) (not (ends_chain x v call)) (starts x v call)) (seen-is x calls)
    (next x calls call).chain

chains : (x : ServoSetting) → Runs (chain_starts x) (chain_ends x) (λ calls. is_some (run x calls).first)
chains x = record {
  first = refl;
  next = λ call calls. next-chain x calls call ∙ none_stands (is_some (run x calls).first) (not (chain_ends x calls call)) (starts x (seen x calls) call);
  apart = λ call calls h e. not_both (is_some (run x calls).first) (starts x (seen x calls) call) _ h e;
}

-- there is a chain if and only if a call starts it and no later call ends it
pub chain_stands_since : (x : ServoSetting) (calls : List Call) → (is_some (run x calls).first ≡ true) ↔ Since (chain_starts x) (chain_ends x) calls
chain_stands_since x calls = stands_since (chain_starts x) (chain_ends x) (λ c. is_some (run x c).first) (chains x) calls
