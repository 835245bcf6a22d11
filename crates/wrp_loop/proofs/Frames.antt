-- What an event leaves of frames: each that there was before, in the order of numbers.
use Rattle.std.proofs.Common.{◌≡◌, ◌∙◌, ◌⊎◌, inl, inr, refl, ap, sym, subst, ℕ, ◌+◌, ◌==◌, ◌||◌, ◌≤◌, ℤ, pos, ◌-ℤ◌, ◌≤ℤ◌, Bool, true, false, if◌then◌else◌, List, [], ◌∷◌, Option, None, Some, option_map, Result, arith}
use Rattle.std.proofs.lemmas.Bool.{eqb-true}
use Rattle.std.proofs.lemmas.Int.{ints}
use Rattle.std.proofs.lemmas.Option.{none-some, same_Some}
use Rattle.std.specs.Int.Signed.{le_z}
use Rattle.std.specs.Option.{is_some}
use Rattle.wrp_base.specs.declared.message.PtpMsg.{PtpMsg}
use Rattle.wrp_base.specs.declared.time.Raw.{Raw}
use Rattle.wrp_base.proofs.Booleans.{not_both}
use Rattle.wrp_base.proofs.Naturals.{eq_self, not_next}
use Rattle.wrp_bounds.specs.Times.{frame_life}
use Rattle.wrp_frame.specs.declared.fault.FrameFault.{FrameFault}
use Rattle.wrp_frame.specs.SentOctets.{octets_of}
use Rattle.wrp_course.specs.declared.event.Event.{Event}
use Rattle.wrp_course.specs.declared.event.Event.TheVariants.{Pass, Tick, Sample, Depart, Arrive, Deliver, Noise, Down, Up, Cut, Join}
use Rattle.wrp_course.specs.declared.place.Place.{Place}
use Rattle.wrp_course.specs.Given.{Given, given_by, gives, gives_all, world_step}
use Rattle.wrp_course.specs.Moved.{arrived, departed_after, departing, moved, one_more, removed, waiting_at}
use Rattle.wrp_course.specs.Setting.{Setting, place_of}
use Rattle.wrp_course.specs.Views.{is_kept, octets_at}
use Rattle.wrp_course.specs.WorldAt.{Arrival, FrameAt, Sending, WorldAt, is_on_fibre}
use Rattle.wrp_course.proofs.RunStamps.{all_given_frame}
use Rattle.wrp_loop.specs.Index.{IsYoung}

-- the event is the arrival of this frame
abbrev pub IsArrivalAt : Event → ℕ → Type 0
IsArrivalAt (Arrive j raw) i = i ≡ j
IsArrivalAt _ i = ⊥

-- a frame that there is after an event was there before, with the same way and octets
pub record FrameWas (w : WorldAt) (e : Event) (i : ℕ) (g : FrameAt) : Type 0 where
  pub frame : FrameAt
  pub is : w.frame i ≡ Some frame
  pub link_is : g.link ≡ frame.link
  pub by_is : g.by ≡ frame.by
  pub sending_is : g.sending ≡ frame.sending
  pub keeps : is_some frame.arrival ≡ true → is_some g.arrival ≡ true
  pub came : is_some g.arrival ≡ true → IsArrivalAt e i ⊎ (is_some frame.arrival ≡ true)

as_it_was : (w : WorldAt) (e : Event) (i : ℕ) (g : FrameAt) → w.frame i ≡ Some g → FrameWas w e i g
as_it_was w e i g is = record { frame = g; is = is; link_is = refl; by_is = refl; sending_is = refl; keeps = λ a. a; came = λ a. inr a }

like : (w : WorldAt) (e : Event) (i : ℕ) (f g h : FrameAt) → h ≡ g → w.frame i ≡ Some f → h.link ≡ f.link → h.by ≡ f.by → h.sending ≡ f.sending →
    (is_some f.arrival ≡ true → is_some h.arrival ≡ true) → (is_some h.arrival ≡ true → IsArrivalAt e i ⊎ (is_some f.arrival ≡ true)) → FrameWas w e i g
like w e i f g h same is link by sending keeps came =
    subst (FrameWas w e i) same (record { frame = f; is = is; link_is = link; by_is = by; sending_is = sending; keeps = keeps; came = came })

removed_was : (s : Setting) (w : WorldAt) (e : Event) (i : ℕ) (g : FrameAt) (o : Option FrameAt) → w.frame i ≡ o → option_map (removed s e) o ≡ Some g → FrameWas w e i g
removed_was s w e i g None is h = absurd (none-some g h)
removed_was s w e i g (Some f) is h = like w e i f g (removed s e f) (same_Some (removed s e f) g h) is refl refl refl (λ a. a) (λ a. inr a)

arriving_was : (w : WorldAt) (j i : ℕ) (raw : Raw) (f g : FrameAt) (b : Bool) (a : Arrival) (gone : Bool) → (i == j) ≡ b → w.frame i ≡ Some f →
    Some (if b then record f { arrival = Some a } else record f { gone = gone }) ≡ Some g → FrameWas w (Arrive j raw) i g
arriving_was w j i raw f g true a gone test is h =
    like w (Arrive j raw) i f g (record f { arrival = Some a }) (same_Some (record f { arrival = Some a }) g h) is refl refl refl (λ p. refl) (λ p. inl (eqb-true i j test))
arriving_was w j i raw f g false a gone test is h =
    like w (Arrive j raw) i f g (record f { gone = gone }) (same_Some (record f { gone = gone }) g h) is refl refl refl (λ p. p) (λ p. inr p)

arrived_was : (s : Setting) (w : WorldAt) (j : ℕ) (raw : Raw) (p : Option FrameAt) (i : ℕ) (o : Option FrameAt) (g : FrameAt) → w.frame i ≡ o → arrived s w j raw p i o ≡ Some g → FrameWas w (Arrive j raw) i g
arrived_was s w j raw None i None g is h = absurd (none-some g h)
arrived_was s w j raw None i (Some f) g is h = as_it_was w (Arrive j raw) i g (is ∙ h)
arrived_was s w j raw (Some k) i None g is h = absurd (none-some g h)
arrived_was s w j raw (Some k) i (Some f) g is h = arriving_was w j i raw f g (i == j) _ _ refl is h

-- for a frame that was there before, or has arrived
abbrev pub IsOld : WorldAt → ℕ → FrameAt → Type 0
IsOld w i g = (i ≤ w.departed) ⊎ (is_some g.arrival ≡ true)

new_frame : (w : WorldAt) (e : Event) (i : ℕ) (f g : FrameAt) (b : Bool) → (i == (w.departed + 1)) ≡ b → is_some f.arrival ≡ false → IsOld w i g → (if b then Some f else w.frame i) ≡ Some g → FrameWas w e i g
new_frame w e i f g true test none (inl given) h = absurd (not_next i w.departed given test)
new_frame w e i f g true test none (inr arrived) h = absurd (not_both (is_some g.arrival) arrived (ap (λ (k : FrameAt). is_some k.arrival) (sym (same_Some f g h)) ∙ none))
new_frame w e i f g false test none old h = as_it_was w e i g h

departing_was : (w : WorldAt) (e : Event) (place : Option Place) (stamp : ℤ) (queue : List Sending) (i : ℕ) (g : FrameAt) → IsOld w i g → departing w place stamp queue i ≡ Some g → FrameWas w e i g
departing_was w e None stamp queue i g old h = as_it_was w e i g h
departing_was w e (Some place) stamp [] i g old h = as_it_was w e i g h
departing_was w e (Some place) stamp (oldest ∷ rest) i g old h = new_frame w e i _ g (i == (w.departed + 1)) refl refl old h

moved_was : (s : Setting) (w : WorldAt) (e : Event) (i : ℕ) (g : FrameAt) → IsOld w i g → (moved s w e).frame i ≡ Some g → FrameWas w e i g
moved_was s w (Depart n p stamp) i g old h = departing_was w (Depart n p stamp) (place_of s n p) stamp (waiting_at w (place_of s n p)) i g old h
moved_was s w (Arrive j raw) i g old h = arrived_was s w j raw (w.frame j) i (w.frame i) g refl h
moved_was s w (Pass dt drifts fibres) i g old h = removed_was s w (Pass dt drifts fibres) i g (w.frame i) refl h
moved_was s w (Tick n) i g old h = removed_was s w (Tick n) i g (w.frame i) refl h
moved_was s w (Sample n base bits) i g old h = removed_was s w (Sample n base bits) i g (w.frame i) refl h
moved_was s w (Deliver j) i g old h = removed_was s w (Deliver j) i g (w.frame i) refl h
moved_was s w (Noise n p octets raw) i g old h = removed_was s w (Noise n p octets raw) i g (w.frame i) refl h
moved_was s w (Down n) i g old h = removed_was s w (Down n) i g (w.frame i) refl h
moved_was s w (Up n off swaps) i g old h = removed_was s w (Up n off swaps) i g (w.frame i) refl h
moved_was s w (Cut l) i g old h = removed_was s w (Cut l) i g (w.frame i) refl h
moved_was s w (Join l ms sm) i g old h = removed_was s w (Join l ms sm) i g (w.frame i) refl h

pub step_was : (s : Setting) (says : Result PtpMsg FrameFault) (y : ℤ) (w : WorldAt) (e : Event) (i : ℕ) (g : FrameAt) → IsOld w i g → (world_step s says y w e).frame i ≡ Some g → FrameWas w e i g
step_was s says y w e i g old h = moved_was s w e i g old (sym (all_given_frame s y (given_by s w (moved s w e) says e) (moved s w e) i) ∙ h)

-- the frame that arrives has arrived
arrives_here : (s : Setting) (w : WorldAt) (i : ℕ) (raw : Raw) (f g : FrameAt) (o : Option FrameAt) → o ≡ Some f → arrived s w i raw o i o ≡ Some g → is_some g.arrival ≡ true
arrives_here s w i raw f g None e h = absurd (none-some f e)
arrives_here s w i raw f g (Some k) e h = here (i == i) _ _ (eq_self i) h
  where
    here : (b : Bool) (a : Arrival) (gone : Bool) → b ≡ true → Some (if b then record k { arrival = Some a } else record k { gone = gone }) ≡ Some g → is_some g.arrival ≡ true
    here true a gone test same = ap (λ (m : FrameAt). is_some m.arrival) (sym (same_Some (record k { arrival = Some a }) g same))
    here false a gone test same = absurd (not_both true refl (sym test))

pub arrival_here : (s : Setting) (says : Result PtpMsg FrameFault) (y : ℤ) (w : WorldAt) (i : ℕ) (raw : Raw) (f g : FrameAt) → w.frame i ≡ Some f → (world_step s says y w (Arrive i raw)).frame i ≡ Some g → is_some g.arrival ≡ true
arrival_here s says y w i raw f g is h =
    let e : Event = Arrive i raw in
    arrives_here s w i raw f g (w.frame i) is (sym (all_given_frame s y (given_by s w (moved s w e) says e) (moved s w e) i) ∙ h)

-- Numbers

given_departed : (s : Setting) (y : ℤ) (gs : List Given) (v : WorldAt) → (gives_all s y v gs).departed ≡ v.departed
given_departed s y [] v = refl
given_departed s y (g ∷ gs) v = given_departed s y gs (gives s y v g)

few_more : (d : ℕ) (queue : List Sending) → d ≤ one_more queue d
few_more d [] = omega arith
few_more d (x ∷ queue) = omega arith

more_departed : (s : Setting) (w : WorldAt) (e : Event) → w.departed ≤ departed_after s w e
more_departed s w (Depart n p stamp) = few_more w.departed (waiting_at w (place_of s n p))
more_departed s w (Pass dt drifts fibres) = omega arith
more_departed s w (Tick n) = omega arith
more_departed s w (Sample n base bits) = omega arith
more_departed s w (Arrive j raw) = omega arith
more_departed s w (Deliver j) = omega arith
more_departed s w (Noise n p octets raw) = omega arith
more_departed s w (Down n) = omega arith
more_departed s w (Up n off swaps) = omega arith
more_departed s w (Cut l) = omega arith
more_departed s w (Join l ms sm) = omega arith

pub step_departed : (s : Setting) (says : Result PtpMsg FrameFault) (y : ℤ) (w : WorldAt) (e : Event) → w.departed ≤ (world_step s says y w e).departed
step_departed s says y w e =
    let same : (world_step s says y w e).departed ≡ departed_after s w e = given_departed s y (given_by s w (moved s w e) says e) (moved s w e) in
    let more : w.departed ≤ departed_after s w e = more_departed s w e in
    omega (arith, same, more)

-- Frames that are kept

is_young : (now sent : ℤ) (life : ℕ) → (now -ℤ sent) ≤ℤ pos life → le_z (now -ℤ sent) (pos life) ≡ true
is_young now sent life h = grind (arith, ints, h)

or_true : (a b : Bool) → b ≡ true → (a || b) ≡ true
or_true true b e = refl
or_true false b e = e

pub young_octets : (s : Setting) (w : WorldAt) (i : ℕ) (f : FrameAt) → w.frame i ≡ Some f → IsYoung s w f → octets_at s w i ≡ Some (octets_of f.sending.message)
young_octets s w i f is young =
    let test : is_kept s w (w.frame i) ≡ true =
    ap (is_kept s w) is ∙ or_true (is_on_fibre (Some f)) (le_z (w.time -ℤ f.sending.at) (pos (frame_life s.cfg))) (is_young w.time f.sending.at (frame_life s.cfg) young) in
    ap (λ (b : Bool). option_map (λ (k : FrameAt). octets_of k.sending.message) (if b then w.frame i else None)) test
    ∙ ap (option_map (λ (k : FrameAt). octets_of k.sending.message)) is

landed : (gone : Bool) (o : Option Arrival) → is_some o ≡ true → (if gone then false else (if is_some o then false else true)) ≡ false
landed true o e = refl
landed false o e = ap (λ (b : Bool). if b then false else true) e

kept_where : (b : Bool) (o : Option FrameAt) (f : FrameAt) (octets : List ℕ) → o ≡ Some f → option_map (λ (k : FrameAt). octets_of k.sending.message) (if b then o else None) ≡ Some octets → (b ≡ true) × (octets_of f.sending.message ≡ octets)
kept_where true o f octets is h =
    (refl, same_Some (octets_of f.sending.message) octets (sym (ap (option_map (λ (k : FrameAt). octets_of k.sending.message)) is) ∙ h))
kept_where false o f octets is h = absurd (none-some octets h)

young_of : (now sent : ℤ) (life : ℕ) → le_z (now -ℤ sent) (pos life) ≡ true → (now -ℤ sent) ≤ℤ pos life
young_of now sent life h = grind (arith, ints, h)

-- for a frame that has arrived and is kept
pub kept_young : (s : Setting) (w : WorldAt) (i : ℕ) (f : FrameAt) (octets : List ℕ) → w.frame i ≡ Some f → is_some f.arrival ≡ true → octets_at s w i ≡ Some octets → IsYoung s w f × (octets_of f.sending.message ≡ octets)
kept_young s w i f octets is arrived h =
    let it = kept_where (is_kept s w (w.frame i)) (w.frame i) f octets is h in
    let off : is_on_fibre (Some f) ≡ false = landed f.gone f.arrival arrived in
    let test : le_z (w.time -ℤ f.sending.at) (pos (frame_life s.cfg)) ≡ true =
    sym (ap (λ (b : Bool). b || le_z (w.time -ℤ f.sending.at) (pos (frame_life s.cfg))) off) ∙ (sym (ap (is_kept s w) is) ∙ it.0) in
    (young_of w.time f.sending.at (frame_life s.cfg) test, it.1)
