-- What the code answers about kept frames, and how many it keeps, is true of the frames of the state.
use Rattle.std.proofs.Common.{◌≡◌, ◌∙◌, refl, ap, ap₂, sym, subst, ◌||◌, ℕ, zero, suc, ◌+◌, ℤ, pos, ◌-ℤ◌, Bool, true, false, cond, if◌then◌else◌, List, [], ◌∷◌, length, Option, None, Some, option_map, option_and_then, count_by, arith, not}
use Rattle.std.proofs.lemmas.Int.{ints}
use Rattle.std.proofs.lemmas.List.Sums.{sum_by-cons}
use Rattle.std.specs.Int.Signed.{le_z}
use Rattle.std.specs.Option.{is_some}
use Rattle.wrp_base.specs.declared.link.Role.{Role}
use Rattle.wrp_network.specs.Network.{End}
use Rattle.wrp_base.specs.Link.{other_of}
use Rattle.wrp_bounds.specs.Times.{frame_life}
use Rattle.wrp_course.specs.declared.place.Place.{Place}
use Rattle.wrp_flights.specs.declared.departed.Departed.{Departed}
use Rattle.wrp_flights.specs.Frames.{FramesAt, at, numbers_from}
use Rattle.wrp_plant.specs.Plant.{end_to, MaybeIs, DepartedIs, FramesAre, is_kept_since, kept_since}
use Rattle.wrp_course.specs.Setting.{Setting, end_at, from_on}
use Rattle.wrp_course.specs.Views.{is_kept, kept_count, kept_frame, sender_of}
use Rattle.wrp_course.specs.WorldAt.{WorldAt, FrameAt, is_on_fibre}
use Rattle.wrp_plant.proofs.FoundFrames.{Found, found, missing}
use Rattle.wrp_plant.proofs.KeptSince.{since_none, since_some, none_kept}
use Rattle.std.proofs.lemmas.Bool.{true≢false}
use Rattle.wrp_course.specs.Premises.{too_old}

-- a frame on a fibre is kept
on_kept : (s : Setting) (w : WorldAt) (o : Option FrameAt) → is_on_fibre o ≡ true → (if is_kept s w o then o else None) ≡ o
on_kept s w None e = refl
on_kept s w (Some f) e = ap (λ on. if (on || le_z (w.time -ℤ f.sending.at) (pos (frame_life s.cfg))) then Some f else None) e

pub kept_on_fibre : (s : Setting) (w : WorldAt) (i : ℕ) → is_on_fibre (w.frame i) ≡ true → kept_frame s w i ≡ w.frame i
kept_on_fibre s w i e = on_kept s w (w.frame i) e

-- The frame of a number

-- a frame was put out at most a life ago if and only if it was put out at the horizon or later
pub same_age : (now sent life h : ℤ) → h ≡ now -ℤ life → le_z (now -ℤ sent) life ≡ le_z h sent
same_age now sent life h e = by_test (le_z (now -ℤ sent) life) (le_z h sent) refl refl where
  by_test : (a b : Bool) → le_z (now -ℤ sent) life ≡ a → le_z h sent ≡ b → a ≡ b
  by_test true true f g = refl
  by_test false false f g = refl
  by_test true false f g = absurd (omega (arith, ints, e, f, g))
  by_test false true f g = absurd (omega (arith, ints, e, f, g))

-- the code keeps the frames that the state keeps
pub kept_since_is : (s : Setting) (w : WorldAt) (h : ℤ) (o : Option FrameAt) → h ≡ w.time -ℤ pos (frame_life s.cfg) → is_kept s w o ≡ is_kept_since h o
kept_since_is s w h None e = refl
kept_since_is s w h (Some f) e = ap (λ b. is_on_fibre (Some f) || b) (same_age w.time f.sending.at (pos (frame_life s.cfg)) h e)

pub frame_told : (s : Setting) (w : WorldAt) (n : ℕ) (frames : FramesAt) → FramesAre s w frames → MaybeIs DepartedIs (kept_frame s w n) (at n frames.kept)
frame_told s w n frames h =
    subst (λ b. MaybeIs DepartedIs (if b then w.frame n else None) (at n frames.kept)) (sym (kept_since_is s w frames.horizon (w.frame n) h.horizon)) (h.each n)

-- the node and the port at an end
abbrev pub pair : End → ℕ × ℕ
pair end = (end.node, end.port)

-- the port that sent a frame that is kept
pub sender_told : (s : Setting) (w : WorldAt) (n : ℕ) (d : Departed) (r : Option (ℕ × ℕ)) → MaybeIs DepartedIs (kept_frame s w n) (Some d) →
    r ≡ option_map pair (end_at s d.link d.by) → r ≡ option_map pair (sender_of s w n)
sender_told s w n d r h f =
    let it : Found DepartedIs (kept_frame s w n) d = found DepartedIs (kept_frame s w n) (Some d) d h refl in
    f ∙ ap₂ (λ k b. option_map pair (end_at s k b)) it.holds.link it.holds.by
    ∙ sym (ap (λ (o : Option FrameAt). option_map pair (option_and_then (λ g. end_at s g.link g.by) o)) it.is)

-- the end at which a frame arrives
abbrev way : ℕ → Role → Place
way k by = record { link = k; role = other_of by }

pub way_told : (s : Setting) (w : WorldAt) (n : ℕ) (frames : FramesAt) (d : Departed) (r : Place) → FramesAre s w frames → at n frames.kept ≡ Some d →
    r ≡ way d.link d.by → Some r ≡ option_map end_to (kept_frame s w n)
way_told s w n frames d r h e f =
    let it : Found DepartedIs (kept_frame s w n) d = found DepartedIs (kept_frame s w n) (at n frames.kept) d (frame_told s w n frames h) e in
    ap Some (f ∙ ap₂ way it.holds.link it.holds.by) ∙ sym (ap (option_map end_to) it.is)

pub no_way : (s : Setting) (w : WorldAt) (n : ℕ) (frames : FramesAt) → FramesAre s w frames → at n frames.kept ≡ None →
    None ≡ option_map end_to (kept_frame s w n)
no_way s w n frames h e =
    sym (ap (option_map end_to) (missing DepartedIs (kept_frame s w n) (at n frames.kept) (frame_told s w n frames h) e))

-- How many are kept

numbers_are : (n k : ℕ) → numbers_from n k ≡ from_on n k
numbers_are zero k = refl
numbers_are (suc n) k = ap (λ (l : List ℕ). k ∷ l) (numbers_are n (k + 1))

counted_alike : (p q : ℕ → Bool) (xs : List ℕ) → ((i : ℕ) → p i ≡ q i) → count_by p xs ≡ count_by q xs
counted_alike p q [] h = refl
counted_alike p q (x ∷ xs) h =
    sum_by-cons (λ n. cond (p n) 1 0) x xs ∙ ap₂ (λ b n. cond b 1 0 + n) (h x) (counted_alike p q xs h) ∙ sym (sum_by-cons (λ n. cond (q n) 1 0) x xs)

some_alike : (o : Option FrameAt) (q : Option Departed) → MaybeIs DepartedIs o q → is_some q ≡ is_some o
some_alike None None m = refl
some_alike None (Some d) m = absurd m
some_alike (Some f) None m = absurd m
some_alike (Some f) (Some d) m = refl

since_told : (h : ℤ) (o : Option FrameAt) → is_some (kept_since h o) ≡ is_kept_since h o
since_told h None = refl
since_told h (Some f) = by_test (is_kept_since h (Some f)) refl where
  by_test : (b : Bool) → is_kept_since h (Some f) ≡ b → is_some (kept_since h (Some f)) ≡ is_kept_since h (Some f)
  by_test true k = ap is_some (since_some h f k) ∙ sym k
  by_test false k = ap is_some (since_none h f k) ∙ sym k

pub count_told : (s : Setting) (w : WorldAt) (frames : FramesAt) (n : ℕ) → FramesAre s w frames →
    n ≡ count_by (λ k. is_some (at k frames.kept)) (numbers_from (length frames.sent) 1) → n ≡ kept_count s w
count_told s w frames n h e =
    e ∙ ap (count_by (λ k. is_some (at k frames.kept))) (numbers_are (length frames.sent) 1 ∙ ap (λ m. from_on m 1) h.count)
    ∙ counted_alike (λ k. is_some (at k frames.kept)) (λ i. is_kept s w (w.frame i)) (from_on w.departed 1) (λ i.
    some_alike (kept_since frames.horizon (w.frame i)) (at i frames.kept) (h.each i) ∙ since_told frames.horizon (w.frame i)
    ∙ sym (kept_since_is s w frames.horizon (w.frame i) h.horizon))

-- A young frame

not_false : (b : Bool) → not b ≡ false → b ≡ true
not_false true e = refl
not_false false e = absurd (true≢false e)

pub young_since_holds : (s : Setting) (w : WorldAt) (h : ℤ) (f : FrameAt) → h ≡ w.time -ℤ pos (frame_life s.cfg) → (too_old s.cfg w.time f.sending).fails ≡ false → le_z h f.sending.at ≡ true
young_since_holds s w h f e holds =
    sym (same_age w.time f.sending.at (pos (frame_life s.cfg)) h e) ∙ not_false (le_z (w.time -ℤ f.sending.at) (pos (frame_life s.cfg))) holds

no_young : (on young : Bool) → (on || young) ≡ false → young ≡ true → ⊥
no_young true young e f = absurd (true≢false e)
no_young false young e f = absurd (true≢false (sym f ∙ e))

-- a young frame of the state is kept
pub not_kept : (s : Setting) (w : WorldAt) (n : ℕ) (frames : FramesAt) (f : FrameAt) → FramesAre s w frames → at n frames.kept ≡ None → w.frame n ≡ Some f →
    le_z frames.horizon f.sending.at ≡ true → ⊥
not_kept s w n frames f h e k young =
    let none : is_kept_since frames.horizon (Some f) ≡ false =
    none_kept frames.horizon f (at n frames.kept) (subst (λ o. MaybeIs DepartedIs (kept_since frames.horizon o) (at n frames.kept)) k (h.each n)) e in
    no_young (is_on_fibre (Some f)) (le_z frames.horizon f.sending.at) none young
