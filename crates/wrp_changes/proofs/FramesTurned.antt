-- After an event changed the kept frames, they stand for the frames of the state.
use Rattle.std.proofs.Common.{◌≡◌, ◌∙◌, refl, ap, ap₂, sym, subst, ℕ, ◌||◌, ◌&&◌, ℤ, pos, ◌+ℤ◌, ◌-ℤ◌, ◌≤ℤ◌, Bool, true, false, if◌then◌else◌, length, Option, None, Some, option_map, arith}
use Rattle.std.proofs.lemmas.Int.{ints}
use Rattle.std.specs.Int.Signed.{le_z}
use Rattle.wrp_bounds.specs.Times.{frame_life}
use Rattle.wrp_flights.specs.declared.departed.Departed.{Departed}
use Rattle.wrp_flights.specs.Departed.{is_kept, is_on, is_young, kept_in, turn_in}
use Rattle.wrp_flights.specs.Frames.{FramesAt, Passes, Turned, at, sent_at}
use Rattle.wrp_course.specs.declared.event.Event.{Event}
use Rattle.wrp_course.specs.Moved.{loses, removed}
use Rattle.wrp_course.specs.Setting.{Setting}
use Rattle.wrp_course.specs.WorldAt.{WorldAt, FrameAt, is_on_fibre}
use Rattle.wrp_plant.specs.Plant.{MaybeIs, DepartedIs, FramesAre, is_kept_since, kept_since}
use Rattle.wrp_plant.proofs.KeptSince.{none_or, on_alike, since_none, since_some}

-- One frame

if_or : (a b : Bool) → (if a then true else b) ≡ a || b
if_or true b = refl
if_or false b = refl

kept_alike : (h : ℤ) (f : FrameAt) (d : Departed) → DepartedIs f d → is_kept h d ≡ is_kept_since h (Some f)
kept_alike h f d e = if_or (is_on d) (is_young h d) ∙ ap₂ (λ a t. a || le_z h t) (sym (on_alike f d e)) e.sent

-- what is kept of a single frame
frame_kept : (h : ℤ) (f : FrameAt) (d : Departed) → DepartedIs f d → MaybeIs DepartedIs (kept_since h (Some f)) (kept_in h (Some d))
frame_kept h f d e = by_test (is_kept h d) refl where
  by_test : (b : Bool) → is_kept h d ≡ b → MaybeIs DepartedIs (kept_since h (Some f)) (kept_in h (Some d))
  by_test true k =
      subst (λ q. MaybeIs DepartedIs (kept_since h (Some f)) q) (sym (ap (λ b. if b then Some d else None) k))
      (subst (λ o. MaybeIs DepartedIs o (Some d)) (sym (since_some h f (sym (kept_alike h f d e) ∙ k))) e)
  by_test false k =
      subst (λ q. MaybeIs DepartedIs (kept_since h (Some f)) q) (sym (ap (λ b. if b then Some d else None) k))
      (subst (λ o. MaybeIs DepartedIs o None) (sym (since_none h f (sym (kept_alike h f d e) ∙ k))) tt)

-- Frames that change

pub record ChangeIs (g : FrameAt → FrameAt) (change : Departed → Departed) : Type 0 where
  pub sent : (f : FrameAt) → (g f).sending.at ≡ f.sending.at
  pub off : (f : FrameAt) → is_on_fibre (Some f) ≡ false → is_on_fibre (Some (g f)) ≡ false
  pub is : (f : FrameAt) (d : Departed) → DepartedIs f d → DepartedIs (g f) (change d)

forgotten : (h : ℤ) (g : FrameAt → FrameAt) (change : Departed → Departed) (f : FrameAt) → ChangeIs g change → is_kept_since h (Some f) ≡ false → is_kept_since h (Some (g f)) ≡ false
forgotten h g change f c e =
    let it : (is_on_fibre (Some f) ≡ false) × (le_z h f.sending.at ≡ false) = none_or (is_on_fibre (Some f)) (le_z h f.sending.at) e in
    ap₂ (λ a t. a || le_z h t) (c.off f it.0) (c.sent f) ∙ it.1

turned_kept : (h : ℤ) (g : FrameAt → FrameAt) (change : Departed → Departed) (f : FrameAt) (q r : Option Departed) → ChangeIs g change →
    MaybeIs DepartedIs (Some f) q → r ≡ turn_in h change q → MaybeIs DepartedIs (kept_since h (Some (g f))) r
turned_kept h g change f None r c m e = absurd m
turned_kept h g change f (Some d) r c m e = subst (MaybeIs DepartedIs (kept_since h (Some (g f)))) (sym e) (frame_kept h (g f) (change d) (c.is f d m))

turned_none : (h : ℤ) (change : Departed → Departed) (o : Option FrameAt) (q r : Option Departed) → MaybeIs DepartedIs None q → r ≡ turn_in h change q → o ≡ None → MaybeIs DepartedIs o r
turned_none h change o (Some d) r m e k = absurd m
turned_none h change o None r m e k = subst (λ p. MaybeIs DepartedIs p r) (sym k) (subst (MaybeIs DepartedIs None) (sym e) tt)

turned_one : (h : ℤ) (g : FrameAt → FrameAt) (change : Departed → Departed) (o : Option FrameAt) (q r : Option Departed) → ChangeIs g change →
    MaybeIs DepartedIs (kept_since h o) q → r ≡ turn_in h change q → MaybeIs DepartedIs (kept_since h (option_map g o)) r
turned_one h g change None q r c m e = turned_none h change None q r m e refl
turned_one h g change (Some f) q r c m e = by_test (is_kept_since h (Some f)) refl where
  by_test : (b : Bool) → is_kept_since h (Some f) ≡ b → MaybeIs DepartedIs (kept_since h (Some (g f))) r
  by_test true k = turned_kept h g change f q r c (subst (λ p. MaybeIs DepartedIs p q) (since_some h f k) m) e
  by_test false k =
      turned_none h change (kept_since h (Some (g f))) q r (subst (λ p. MaybeIs DepartedIs p q) (since_none h f k) m) e
      (since_none h (g f) (forgotten h g change f c k))

sent_mapped : (g : FrameAt → FrameAt) (o : Option FrameAt) → ((f : FrameAt) → (g f).sending.at ≡ f.sending.at) → option_map (λ f. f.sending.at) o ≡ option_map (λ f. f.sending.at) (option_map g o)
sent_mapped g None e = refl
sent_mapped g (Some f) e = ap Some (sym (e f))

pub frames_turned : (s : Setting) (w v : WorldAt) (g : ℕ → FrameAt → FrameAt) (change : ℕ → Departed → Departed) (old new : FramesAt) → Turned change old new →
    v.time ≡ w.time → v.departed ≡ w.departed → ((i : ℕ) → v.frame i ≡ option_map (g i) (w.frame i)) → ((i : ℕ) → ChangeIs (g i) (change i)) →
    FramesAre s w old → FramesAre s v new
frames_turned s w v g change old new t time departed frame c h = record {
  horizon = t.horizon ∙ h.horizon ∙ ap (λ x. x -ℤ pos (frame_life s.cfg)) (sym time);
  count = ap length t.sent ∙ h.count ∙ sym departed;
  sent = λ i. ap (sent_at i) t.sent ∙ h.sent i ∙ sent_mapped (g i) (w.frame i) (c i).sent ∙ ap (option_map (λ f. f.sending.at)) (sym (frame i));
  each = λ i.
      subst (λ x. MaybeIs DepartedIs (kept_since x (v.frame i)) (at i new.kept)) (sym t.horizon)
      (subst (λ o. MaybeIs DepartedIs (kept_since old.horizon o) (at i new.kept)) (sym (frame i))
      (turned_one old.horizon (g i) (change i) (w.frame i) (at i old.kept) (at i new.kept) (c i) (h.each i) (t.kept i)));
}

-- Frames that stay

not_lost : (g l o : Bool) → l ≡ false → g || (l && o) ≡ g
not_lost true l o e = refl
not_lost false l o e = ap (λ b. false || (b && o)) e

unremoved : (s : Setting) (e : Event) (o : Option FrameAt) → ((k : ℕ) → loses s e k ≡ false) → option_map (removed s e) o ≡ o
unremoved s e None none = refl
unremoved s e (Some f) none = ap (λ g. Some (record f { gone = g })) (not_lost f.gone (loses s e f.link) (is_on_fibre (Some f)) (none f.link))

pub frames_same : (s : Setting) (w v : WorldAt) (old new : FramesAt) → new ≡ old → v.time ≡ w.time → v.departed ≡ w.departed → ((i : ℕ) → v.frame i ≡ w.frame i) →
    FramesAre s w old → FramesAre s v new
frames_same s w v old new same time departed frame h = subst (FramesAre s v) (sym same) (record {
  horizon = h.horizon ∙ ap (λ x. x -ℤ pos (frame_life s.cfg)) (sym time);
  count = h.count ∙ sym departed;
  sent = λ i. h.sent i ∙ ap (option_map (λ f. f.sending.at)) (sym (frame i));
  each = λ i. subst (λ o. MaybeIs DepartedIs (kept_since old.horizon o) (at i old.kept)) (sym (frame i)) (h.each i);
})

-- an event that loses no frame
pub kept_frames : (s : Setting) (e : Event) (w v : WorldAt) (old new : FramesAt) → new ≡ old → ((k : ℕ) → loses s e k ≡ false) →
    v.time ≡ w.time → v.departed ≡ w.departed → ((i : ℕ) → v.frame i ≡ option_map (removed s e) (w.frame i)) → FramesAre s w old → FramesAre s v new
kept_frames s e w v old new same none time departed frame h =
    frames_same s w v old new same time departed (λ i. frame i ∙ unremoved s e (w.frame i) none) h

-- Time passes

still_old : (a b t : ℤ) → a ≤ℤ b → le_z a t ≡ false → le_z b t ≡ false
still_old a b t l e = by_test (le_z b t) refl where
  by_test : (x : Bool) → le_z b t ≡ x → le_z b t ≡ false
  by_test true g = absurd (omega (arith, ints, l, e, g))
  by_test false g = g

passed_kept : (h : ℤ) (f : FrameAt) (q r : Option Departed) → MaybeIs DepartedIs (Some f) q → r ≡ kept_in h q → MaybeIs DepartedIs (kept_since h (Some f)) r
passed_kept h f None r m e = absurd m
passed_kept h f (Some d) r m e = subst (MaybeIs DepartedIs (kept_since h (Some f))) (sym e) (frame_kept h f d m)

passed_none : (h : ℤ) (o : Option FrameAt) (q r : Option Departed) → MaybeIs DepartedIs None q → r ≡ kept_in h q → o ≡ None → MaybeIs DepartedIs o r
passed_none h o (Some d) r m e k = absurd m
passed_none h o None r m e k = subst (λ p. MaybeIs DepartedIs p r) (sym k) (subst (MaybeIs DepartedIs None) (sym e) tt)

passed_one : (before h : ℤ) (o : Option FrameAt) (q r : Option Departed) → before ≤ℤ h → MaybeIs DepartedIs (kept_since before o) q → r ≡ kept_in h q → MaybeIs DepartedIs (kept_since h o) r
passed_one before h None q r l m e = passed_none h None q r m e refl
passed_one before h (Some f) q r l m e = by_test (is_kept_since before (Some f)) refl where
  old : is_kept_since before (Some f) ≡ false → is_kept_since h (Some f) ≡ false
  old k =
      let it : (is_on_fibre (Some f) ≡ false) × (le_z before f.sending.at ≡ false) = none_or (is_on_fibre (Some f)) (le_z before f.sending.at) k in
      ap (λ a. a || le_z h f.sending.at) it.0 ∙ still_old before h f.sending.at l it.1

  by_test : (b : Bool) → is_kept_since before (Some f) ≡ b → MaybeIs DepartedIs (kept_since h (Some f)) r
  by_test true k = passed_kept h f q r (subst (λ p. MaybeIs DepartedIs p q) (since_some before f k) m) e
  by_test false k = passed_none h (kept_since h (Some f)) q r (subst (λ p. MaybeIs DepartedIs p q) (since_none before f k) m) e (since_none h f (old k))

later : (h dt : ℤ) → pos 0 ≤ℤ dt → h ≤ℤ (h +ℤ dt)
later h dt l = omega (arith, ints, l)

moved_on : (h t life dt : ℤ) → h ≡ t -ℤ life → (h +ℤ dt) ≡ ((t +ℤ dt) -ℤ life)
moved_on h t life dt e = omega (arith, ints, e)

pub frames_passed : (s : Setting) (e : Event) (w v : WorldAt) (dt : ℤ) (old new : FramesAt) → Passes (old.horizon +ℤ dt) old new → pos 0 ≤ℤ dt → ((k : ℕ) → loses s e k ≡ false) →
    v.time ≡ w.time +ℤ dt → v.departed ≡ w.departed → ((i : ℕ) → v.frame i ≡ option_map (removed s e) (w.frame i)) → FramesAre s w old → FramesAre s v new
frames_passed s e w v dt old new p l none time departed frame h = record {
  horizon = p.horizon_is ∙ moved_on old.horizon w.time (pos (frame_life s.cfg)) dt h.horizon ∙ ap (λ x. x -ℤ pos (frame_life s.cfg)) (sym time);
  count = ap length p.sent ∙ h.count ∙ sym departed;
  sent = λ i. ap (sent_at i) p.sent ∙ h.sent i ∙ ap (option_map (λ f. f.sending.at)) (sym (frame i ∙ unremoved s e (w.frame i) none));
  each = λ i.
      subst (λ x. MaybeIs DepartedIs (kept_since x (v.frame i)) (at i new.kept)) (sym p.horizon_is)
      (subst (λ o. MaybeIs DepartedIs (kept_since (old.horizon +ℤ dt) o) (at i new.kept)) (sym (frame i ∙ unremoved s e (w.frame i) none))
      (passed_one old.horizon (old.horizon +ℤ dt) (w.frame i) (at i old.kept) (at i new.kept) (later old.horizon dt l) (h.each i) (p.kept i)));
}
