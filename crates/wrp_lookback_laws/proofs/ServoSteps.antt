-- The chain and TRACK one call further: what the servo's look-backs say of a list and of the list with one call more.
use Rattle.std.specs.Prelude.{◌⊎◌}
use Rattle.std.proofs.Common.{◌≡◌, refl, ap, sym, subst, ℤ, Bool, true, false, not, ◌&&◌, is_some, Option, None, Some, List, [], ◌∷◌, ◌++◌, inl, inr}
use Rattle.std.proofs.lemmas.Bool.{false_from_ne_true}
use Rattle.wrp_base.proofs.Booleans.{and_first, not_both}
use Rattle.wrp_base.specs.declared.link.Deltas.{Deltas}
use Rattle.wrp_base.specs.declared.link.ServoState.{ServoState}
use Rattle.wrp_base.specs.declared.link.ServoState.TheVariants.{Track, WaitStable}
use Rattle.wrp_base.specs.declared.measurement.Four.{Four}
use Rattle.wrp_servo.specs.declared.machine.Core.{Core}
use Rattle.wrp_servo.specs.Call.{Call, CallMeasured, ServoSetting, run}
use Rattle.wrp_servo.specs.Chain.{starts}
use Rattle.wrp_servo.specs.Laws.{ChainSince, TrackSince}
use Rattle.wrp_servo.specs.LookBack.{seen, chain_starts, chain_ends, enters_track, leaves_track}
use Rattle.wrp_servo.specs.Measuring.{deltas_in_chain}
use Rattle.wrp_servo.specs.Since.{Since, NoneEnds}
use Rattle.wrp_servo.specs.Table.{is_track}
use Rattle.wrp_servo.specs.Tracking.{enters, enters_by, is_wait_stable}

-- ---- lists

pub head_is : (a b : Call) (xs ys : List Call) → a ∷ xs ≡ b ∷ ys → a ≡ b
head_is a b xs ys e = cc

pub tail_is : (a b : Call) (xs ys : List Call) → a ∷ xs ≡ b ∷ ys → xs ≡ ys
tail_is a b xs ys e = cc

-- what began is still there, or began by the newest call
back : (starts ends : List Call → Call → Bool) (call : Call) (calls : List Call) (since : List Call) (start : Call) (before : List Call) →
    call ∷ calls ≡ since ++ start ∷ before → starts before start ≡ true → NoneEnds ends since (start ∷ before) →
    (starts calls call ≡ true) ⊎ ((ends calls call ≡ false) × Since starts ends calls)
back starts ends call calls [] start before e s n =
    inl (subst (λ (c : Call). starts calls c ≡ true) (sym (head_is call start calls before e)) (subst (λ (l : List Call). starts l start ≡ true) (sym (tail_is call start calls before e)) s))
back starts ends call calls (c ∷ since) start before e s n =
    let rest : calls ≡ since ++ start ∷ before = tail_is call c calls (since ++ start ∷ before) e in
    inr (
      subst (λ (k : Call). ends calls k ≡ false) (sym (head_is call c calls (since ++ start ∷ before) e)) (subst (λ (l : List Call). ends l c ≡ false) (sym rest) n.0),
      record { since = since; start = start; before = before; splits = rest; started = s; stays = n.1 },
    )

one_back : (starts ends : List Call → Call → Bool) (call : Call) (calls : List Call) → Since starts ends (call ∷ calls) → (starts calls call ≡ true) ⊎ ((ends calls call ≡ false) × Since starts ends calls)
one_back starts ends call calls t = back starts ends call calls t.since t.start t.before t.splits t.started t.stays

one_more : (starts ends : List Call → Call → Bool) (call : Call) (calls : List Call) → Since starts ends calls → ends calls call ≡ false → Since starts ends (call ∷ calls)
one_more starts ends call calls t e = record {
  since = call ∷ t.since;
  start = t.start;
  before = t.before;
  splits = ap (λ (l : List Call). call ∷ l) t.splits;
  started = t.started;
  stays = (subst (λ (l : List Call). ends l call ≡ false) t.splits e, t.stays);
}

begun_by : (starts ends : List Call → Call → Bool) (call : Call) (calls : List Call) → starts calls call ≡ true → Since starts ends (call ∷ calls)
begun_by starts ends call calls s = record { since = []; start = call; before = calls; splits = refl; started = s; stays = tt }

-- ---- the chain

pub chain_goes : ChainSince → (x : ServoSetting) (calls : List Call) (call : Call) → is_some (run x calls).first ≡ true → chain_ends x calls call ≡ false → is_some (run x (call ∷ calls)).first ≡ true
chain_goes law x calls call h e = (law x (call ∷ calls)).1 (one_more (chain_starts x) (chain_ends x) call calls ((law x calls).0 h) e)

pub chain_starts_at : ChainSince → (x : ServoSetting) (calls : List Call) (call : Call) → chain_starts x calls call ≡ true → is_some (run x (call ∷ calls)).first ≡ true
chain_starts_at law x calls call s = (law x (call ∷ calls)).1 (begun_by (chain_starts x) (chain_ends x) call calls s)

-- a chain that is there was there and did not end, or started when there was none
pub record Came (x : ServoSetting) (calls : List Call) (call : Call) : Type 0 where
  pub stood : is_some (run x calls).first ≡ true → chain_ends x calls call ≡ false
  pub began : is_some (run x calls).first ≡ false → starts x (seen x calls) call ≡ true

not_some : (b s : Bool) → (not b && s) ≡ true → b ≡ false
not_some true s h = absurd cc
not_some false s h = refl

start_of : (b s : Bool) → (not b && s) ≡ true → s ≡ true
start_of true s h = absurd cc
start_of false s h = h

came_by : ChainSince → (x : ServoSetting) (calls : List Call) (call : Call) →
    ((chain_starts x calls call ≡ true) ⊎ ((chain_ends x calls call ≡ false) × Since (chain_starts x) (chain_ends x) calls)) → Came x calls call
came_by law x calls call (inl s) =
    let none : is_some (run x calls).first ≡ false = not_some (is_some (run x calls).first) (starts x (seen x calls) call) s in
    record {
      stood = λ e. absurd (not_both (is_some (run x calls).first) e none);
      began = λ e. start_of (is_some (run x calls).first) (starts x (seen x calls) call) s;
    }
came_by law x calls call (inr (goes, t)) =
    let some : is_some (run x calls).first ≡ true = (law x calls).1 t in
    record {
      stood = λ e. goes;
      began = λ e. absurd (not_both (is_some (run x calls).first) some e);
    }

pub chain_came : ChainSince → (x : ServoSetting) (calls : List Call) (call : Call) → is_some (run x (call ∷ calls)).first ≡ true → Came x calls call
chain_came law x calls call h = came_by law x calls call (one_back (chain_starts x) (chain_ends x) call calls ((law x (call ∷ calls)).0 h))

-- ---- TRACK

pub track_goes : TrackSince → (x : ServoSetting) (calls : List Call) (call : Call) → is_track (run x calls).state ≡ true → leaves_track x calls call ≡ false → is_track (run x (call ∷ calls)).state ≡ true
track_goes law x calls call h e = (law x (call ∷ calls)).1 (one_more (enters_track x) (leaves_track x) call calls ((law x calls).0 h) e)

-- nothing enters TRACK when the servo is in TRACK
waits : (s : ServoState) → is_track s ≡ true → is_wait_stable s ≡ true → ⊥
waits Track h e = cc
waits WaitStable h e = cc
waits s h e = cc

enters_here : (x : ServoSetting) (v : Core) (f : Four) (y : ℤ) (on : Option Deltas) → is_track v.state ≡ true → enters_by x v f y on ≡ true → ⊥
enters_here x v f y None h e = cc
enters_here x v f y (Some d) h e = waits v.state h (and_first (is_wait_stable v.state) _ e)

enters_never : (x : ServoSetting) (v : Core) (call : Call) → is_track v.state ≡ true → enters x v call ≡ true → ⊥
enters_never x v (CallMeasured f y) h e = enters_here x v f y (deltas_in_chain v) h e
enters_never x v _ h e = cc

left_by : (x : ServoSetting) (calls : List Call) (call : Call) → is_track (run x calls).state ≡ true → leaves_track x calls call ≡ true →
    ((enters_track x calls call ≡ true) ⊎ ((leaves_track x calls call ≡ false) × Since (enters_track x) (leaves_track x) calls)) → ⊥
left_by x calls call h e (inl s) = enters_never x (seen x calls) call h s
left_by x calls call h e (inr (goes, t)) = not_both (leaves_track x calls call) e goes

pub track_left : TrackSince → (x : ServoSetting) (calls : List Call) (call : Call) → is_track (run x calls).state ≡ true → leaves_track x calls call ≡ true → is_track (run x (call ∷ calls)).state ≡ false
track_left law x calls call h e =
    false_from_ne_true (is_track (run x (call ∷ calls)).state) (λ t. left_by x calls call h e (one_back (enters_track x) (leaves_track x) call calls ((law x (call ∷ calls)).0 t)))

pub track_begins : TrackSince → (x : ServoSetting) (calls : List Call) (call : Call) → enters_track x calls call ≡ true → is_track (run x (call ∷ calls)).state ≡ true
track_begins law x calls call s = (law x (call ∷ calls)).1 (begun_by (enters_track x) (leaves_track x) call calls s)

-- the servo in TRACK entered it, or was in it and did not leave it
abbrev pub TrackCame : ServoSetting → List Call → Call → Type 0
TrackCame x calls call = (enters_track x calls call ≡ true) ⊎ ((leaves_track x calls call ≡ false) × (is_track (run x calls).state ≡ true))

came_so : TrackSince → (x : ServoSetting) (calls : List Call) (call : Call) → ((enters_track x calls call ≡ true) ⊎ ((leaves_track x calls call ≡ false) × Since (enters_track x) (leaves_track x) calls)) → TrackCame x calls call
came_so law x calls call (inl s) = inl s
came_so law x calls call (inr (goes, t)) = inr (goes, (law x calls).1 t)

pub track_came : TrackSince → (x : ServoSetting) (calls : List Call) (call : Call) → is_track (run x (call ∷ calls)).state ≡ true → TrackCame x calls call
track_came law x calls call h = came_so law x calls call (one_back (enters_track x) (leaves_track x) call calls ((law x (call ∷ calls)).0 h))
