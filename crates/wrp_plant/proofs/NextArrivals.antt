-- The kept frame that is due first is the next arrival of the state.
use Rattle.std.proofs.Common.{◌≡◌, ◌∙◌, refl, ap, sym, subst, ℕ, ◌≤◌, ◌⊎◌, ℤ, ◌<ℤ◌, true, false, Option, None, Some}
use Rattle.std.proofs.lemmas.Bool.{false_from_ne_true, false≢true}
use Rattle.wrp_flights.specs.declared.departed.Departed.{Departed}
use Rattle.wrp_flights.specs.Departed.{is_on}
use Rattle.wrp_flights.specs.Frames.{FramesAt, at}
use Rattle.wrp_flights.specs.Next.{IsFirst}
use Rattle.wrp_course.specs.Setting.{Setting}
use Rattle.wrp_course.specs.Views.{IsNextArrival, IsNoSooner}
use Rattle.wrp_course.specs.WorldAt.{WorldAt, FrameAt, is_on_fibre}
use Rattle.wrp_plant.specs.Plant.{MaybeIs, DepartedIs, FramesAre, kept_since}
use Rattle.wrp_plant.proofs.FoundFrames.{Found}
use Rattle.wrp_plant.proofs.KeptSince.{KeptFor, found_kept, kept_for, on_alike, on_since}

-- a frame of the state that is on a fibre is kept
kept_on : (h : ℤ) (o : Option FrameAt) (q : Option Departed) (f : FrameAt) → MaybeIs DepartedIs (kept_since h o) q → o ≡ Some f → is_on_fibre (Some f) ≡ true → KeptFor q f
kept_on h o q f m e on = kept_for h f q (subst (λ p. MaybeIs DepartedIs (kept_since h p) q) e m) (on_since h f on)

no_sooner : (i : ℕ) (due : ℤ) (j : ℕ) (d : Departed) (f : FrameAt) → d.due ≡ f.due → (due <ℤ d.due) ⊎ ((due ≡ d.due) × (i ≤ j)) → IsNoSooner i due j f
no_sooner i due j d f e h = subst (λ z. (due <ℤ z) ⊎ ((due ≡ z) × (i ≤ j))) e h

off_one : (h : ℤ) (o : Option FrameAt) (q : Option Departed) → MaybeIs DepartedIs (kept_since h o) q → ((d : Departed) → q ≡ Some d → is_on d ≡ false) → is_on_fibre o ≡ false
off_one h None q m off = refl
off_one h (Some f) q m off = false_from_ne_true (is_on_fibre (Some f)) (λ on.
    let it : KeptFor q f = kept_on h (Some f) q f m refl on in
    false≢true (sym (off it.one it.is) ∙ sym (on_alike f it.one it.holds) ∙ on))

pub next_arrival : (s : Setting) (w : WorldAt) (frames : FramesAt) (next : Option (ℕ × ℤ)) → FramesAre s w frames → IsFirst frames.kept next → IsNextArrival w next
next_arrival s w frames None h first = λ i. off_one frames.horizon (w.frame i) (at i frames.kept) (h.each i) (first i)
next_arrival s w frames (Some next) h first =
    let it : Found DepartedIs (w.frame next.0) first.frame =
    found_kept frames.horizon (w.frame next.0) (at next.0 frames.kept) first.frame (h.each next.0) first.is in (
      it.one,
      it.is,
      ap is_on_fibre it.is ∙ on_alike it.one first.frame it.holds ∙ first.on,
      sym it.holds.due ∙ first.when,
      λ j g e on.
          let kept : KeptFor (at j frames.kept) g = kept_on frames.horizon (w.frame j) (at j frames.kept) g (h.each j) e (sym (ap is_on_fibre e) ∙ on) in
          no_sooner next.0 next.1 j kept.one g kept.holds.due
          (first.least j kept.one kept.is (sym (on_alike g kept.one kept.holds) ∙ sym (ap is_on_fibre e) ∙ on)),
    )
