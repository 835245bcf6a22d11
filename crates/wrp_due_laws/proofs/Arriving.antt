-- One of the frames on fibres is due first, if there is any.
use Rattle.std.proofs.Common.{◌≡◌, ◌∙◌, ◌⊎◌, inl, inr, refl, sym, ap, subst, ℕ, zero, suc, ℤ, ◌+◌, ◌<◌, ◌≤◌, ◌<ℤ◌, ◌≤ℤ◌, ◌==◌, Bool, true, false, if◌then◌else◌, List, [], ◌∷◌, Option, None, Some, option_map, arith}
use Rattle.std.proofs.lemmas.Bool.{cases_Bool, cases_lt, eqb-true, true≢false}
use Rattle.std.proofs.lemmas.Int.{by_lt_z, ints}
use Rattle.std.proofs.lemmas.Option.{same_Some}
use Rattle.wrp_base.specs.declared.time.Raw.{Raw}
use Rattle.wrp_course.specs.declared.event.Event.{Event}
use Rattle.wrp_course.specs.declared.event.Event.TheVariants.{Pass, Tick, Sample, Depart, Arrive, Deliver, Noise, Down, Up, Cut, Join}
use Rattle.wrp_course.specs.declared.place.Place.{Place}
use Rattle.wrp_course.specs.Given.{Given, given_by, gives, gives_all}
use Rattle.wrp_course.specs.Moved.{arrived, departed_after, departing, frame_after, moved, one_more, removed, waiting_at}
use Rattle.wrp_course.specs.Run.{Happened, world_after}
use Rattle.wrp_course.specs.Setting.{Setting, place_of}
use Rattle.wrp_course.specs.Views.{IsNextArrival, IsNoSooner}
use Rattle.wrp_course.specs.WorldAt.{FrameAt, Sending, WorldAt, is_on_fibre}

-- Frames are numbered as they depart

abbrev IsNumbered : WorldAt → Type 0
IsNumbered w = (i : ℕ) → w.departed < i → w.frame i ≡ None

least_more : (queue : List Sending) (n : ℕ) → n ≤ one_more queue n
least_more [] n = omega arith
least_more (first ∷ rest) n = omega arith

otherwise : {A : Type 0} (b : Bool) (x y : A) → b ≡ false → (if b then x else y) ≡ y
otherwise true x y e = absurd (true≢false e)
otherwise false x y e = refl

departing_none : (w : WorldAt) (o : Option Place) (stamp : ℤ) (queue : List Sending) (i : ℕ) → IsNumbered w → one_more queue w.departed < i → departing w o stamp queue i ≡ None
departing_none w None stamp queue i h below = let least = least_more queue w.departed in h i (omega (arith, least, below))
departing_none w (Some place) stamp [] i h below = h i below
departing_none w (Some place) stamp (oldest ∷ rest) i h below =
    elim (cases_Bool (i == (w.departed + 1))) [
      | inl same ↦ let is = eqb-true i (w.departed + 1) same in absurd (omega (arith, below, is))
      | inr other ↦ otherwise (i == (w.departed + 1)) (Some _) (w.frame i) other ∙ h i (omega (arith, below))
    ]

arrived_none : (s : Setting) (w : WorldAt) (j : ℕ) (raw : Raw) (g : Option FrameAt) (i : ℕ) (o : Option FrameAt) → o ≡ None → arrived s w j raw g i o ≡ None
arrived_none s w j raw None i o e = e
arrived_none s w j raw (Some g) i None e = refl
arrived_none s w j raw (Some g) i (Some f) e = absurd (cc)

removed_none : (s : Setting) (e : Event) (o : Option FrameAt) → o ≡ None → option_map (removed s e) o ≡ None
removed_none s e o is = ap (λ (p : Option FrameAt). option_map (removed s e) p) is

moved_none : (s : Setting) (w : WorldAt) (e : Event) (i : ℕ) → IsNumbered w → departed_after s w e < i → frame_after s w e i ≡ None
moved_none s w (Depart n p stamp) i h below = departing_none w (place_of s n p) stamp (waiting_at w (place_of s n p)) i h below
moved_none s w (Arrive j raw) i h below = arrived_none s w j raw (w.frame j) i (w.frame i) (h i below)
moved_none s w (Pass dt drifts fibres) i h below = removed_none s (Pass dt drifts fibres) (w.frame i) (h i below)
moved_none s w (Tick n) i h below = removed_none s (Tick n) (w.frame i) (h i below)
moved_none s w (Sample n base bits) i h below = removed_none s (Sample n base bits) (w.frame i) (h i below)
moved_none s w (Deliver j) i h below = removed_none s (Deliver j) (w.frame i) (h i below)
moved_none s w (Noise n p octets raw) i h below = removed_none s (Noise n p octets raw) (w.frame i) (h i below)
moved_none s w (Down n) i h below = removed_none s (Down n) (w.frame i) (h i below)
moved_none s w (Up n off swaps) i h below = removed_none s (Up n off swaps) (w.frame i) (h i below)
moved_none s w (Cut k) i h below = removed_none s (Cut k) (w.frame i) (h i below)
moved_none s w (Join k ms sm) i h below = removed_none s (Join k ms sm) (w.frame i) (h i below)

all_numbered : (s : Setting) (y : ℤ) (v : WorldAt) (gs : List Given) → IsNumbered v → IsNumbered (gives_all s y v gs)
all_numbered s y v [] h = h
all_numbered s y v (g ∷ gs) h = all_numbered s y (gives s y v g) gs (λ i below. h i below)

numbered_after : (s : Setting) (events : List Happened) → IsNumbered (world_after s events)
numbered_after s [] i below = refl
numbered_after s (h ∷ before) i below =
    let w : WorldAt = world_after s before in
    all_numbered s h.answer (moved s w h.event) (given_by s w (moved s w h.event) h.says h.event) (λ j under. moved_none s w h.event j (numbered_after s before) under) i below

-- Among the frames of the first numbers

abbrev NoneFlies : WorldAt → ℕ → Type 0
NoneFlies w count = (i : ℕ) → i < count → is_on_fibre (w.frame i) ≡ false

record IsFirst (w : WorldAt) (count i : ℕ) (due : ℤ) : Type 0 where
  frame : FrameAt
  below : i < count
  there : w.frame i ≡ Some frame
  flies : is_on_fibre (w.frame i) ≡ true
  is : frame.due ≡ due
  others : (j : ℕ) (g : FrameAt) → j < count → w.frame j ≡ Some g → is_on_fibre (w.frame j) ≡ true → IsNoSooner i due j g

abbrev Found : WorldAt → ℕ → Type 0
Found w count = NoneFlies w count ⊎ ((i : ℕ) × (due : ℤ) × IsFirst w count i due)

-- the next number is the last of those below its successor
last_of : (i count : ℕ) → i < suc count → count ≤ i → count ≡ i
last_of i count below past = omega (arith, below, past)

same_due : (w : WorldAt) (i j : ℕ) (f g : FrameAt) → i ≡ j → w.frame i ≡ Some f → w.frame j ≡ Some g → f.due ≡ g.due
same_due w i j f g same is there = ap (λ (k : FrameAt). k.due) (same_Some f g (sym is ∙ ap w.frame same ∙ there))

-- if the next frame is on no fibre
still_none : (w : WorldAt) (count : ℕ) → is_on_fibre (w.frame count) ≡ false → NoneFlies w count → NoneFlies w (suc count)
still_none w count out none i below =
    elim (cases_lt i count) [
      | inl before ↦ none i before
      | inr past ↦ subst (λ (k : ℕ). is_on_fibre (w.frame k) ≡ false) (last_of i count below past) out
    ]

still_first : (w : WorldAt) (count i : ℕ) (due : ℤ) → is_on_fibre (w.frame count) ≡ false → IsFirst w count i due → IsFirst w (suc count) i due
still_first w count i due out h = record {
  frame = h.frame;
  below = (let below = h.below in omega (arith, below));
  there = h.there;
  flies = h.flies;
  is = h.is;
  others = λ j g below there flies.
      elim (cases_lt j count) [
        | inl before ↦ h.others j g before there flies
        | inr past ↦ absurd (true≢false (sym flies ∙ subst (λ (k : ℕ). is_on_fibre (w.frame k) ≡ false) (last_of j count below past) out))
      ];
}

-- if it is the only one
only_first : (w : WorldAt) (count : ℕ) (f : FrameAt) → w.frame count ≡ Some f → is_on_fibre (w.frame count) ≡ true → NoneFlies w count → IsFirst w (suc count) count f.due
only_first w count f is out none = record {
  frame = f;
  below = omega arith;
  there = is;
  flies = out;
  is = refl;
  others = λ j g below there flies.
      elim (cases_lt j count) [
        | inl before ↦ absurd (true≢false (sym flies ∙ none j before))
        | inr past ↦ inr (same_due w count j f g (last_of j count below past) is there, past)
      ];
}

-- if it is due sooner than the first of the others
sooner_than : (a b c : ℤ) (i j : ℕ) (g : FrameAt) → a <ℤ b → IsNoSooner i b j g → a <ℤ g.due
sooner_than a b c i j g less (inl more) = omega (arith, ints, less, more)
sooner_than a b c i j g less (inr same) = let is = same.0 in omega (arith, ints, less, is)

sooner_first : (w : WorldAt) (count i : ℕ) (due : ℤ) (f : FrameAt) → w.frame count ≡ Some f → is_on_fibre (w.frame count) ≡ true → f.due <ℤ due → IsFirst w count i due → IsFirst w (suc count) count f.due
sooner_first w count i due f is out less h = record {
  frame = f;
  below = omega arith;
  there = is;
  flies = out;
  is = refl;
  others = λ j g below there flies.
      elim (cases_lt j count) [
        | inl before ↦ inl (sooner_than f.due due due i j g less (h.others j g before there flies))
        | inr past ↦ inr (same_due w count j f g (last_of j count below past) is there, past)
      ];
}

-- if it is not due sooner
no_sooner : (i count : ℕ) (due : ℤ) (g : FrameAt) → i < count → due ≤ℤ g.due → IsNoSooner i due count g
no_sooner i count due g below most =
    by_lt_z due g.due (λ less. inl less) (λ least. inr (omega (arith, ints, most, least), omega (arith, below)))

later_first : (w : WorldAt) (count i : ℕ) (due : ℤ) (f : FrameAt) → w.frame count ≡ Some f → due ≤ℤ f.due → IsFirst w count i due → IsFirst w (suc count) i due
later_first w count i due f is most h = record {
  frame = h.frame;
  below = (let below = h.below in omega (arith, below));
  there = h.there;
  flies = h.flies;
  is = h.is;
  others = λ j g below there flies.
      elim (cases_lt j count) [
        | inl before ↦ h.others j g before there flies
        | inr past ↦
            let same : count ≡ j = last_of j count below past in
            subst (λ (k : ℕ). IsNoSooner i due k g) same (no_sooner i count due g h.below (subst (λ (t : ℤ). due ≤ℤ t) (same_due w count j f g same is there) most))
      ];
}

more_flies : (w : WorldAt) (count : ℕ) (f : FrameAt) → w.frame count ≡ Some f → is_on_fibre (w.frame count) ≡ true → Found w count → Found w (suc count)
more_flies w count f is out (inl none) = inr (count, f.due, only_first w count f is out none)
more_flies w count f is out (inr first) =
    by_lt_z f.due first.1 (λ less. inr (count, f.due, sooner_first w count first.0 first.1 f is out less first.2)) (λ most. inr (first.0, first.1, later_first w count first.0 first.1 f is most first.2))

less_flies : (w : WorldAt) (count : ℕ) → is_on_fibre (w.frame count) ≡ false → Found w count → Found w (suc count)
less_flies w count out (inl none) = inl (still_none w count out none)
less_flies w count out (inr first) = inr (first.0, first.1, still_first w count first.0 first.1 out first.2)

one_number : (w : WorldAt) (count : ℕ) (o : Option FrameAt) → w.frame count ≡ o → Found w count → Found w (suc count)
one_number w count None is found = less_flies w count (ap is_on_fibre is) found
one_number w count (Some f) is found =
    elim (cases_Bool (is_on_fibre (w.frame count))) [
      | inl out ↦ more_flies w count f is out found
      | inr none ↦ less_flies w count none found
    ]

found_below : (w : WorldAt) (count : ℕ) → Found w count
found_below w zero = inl (λ i below. absurd (omega (arith, below)))
found_below w (suc count) = one_number w count (w.frame count) refl (found_below w count)

-- Among all

all_none : (w : WorldAt) → IsNumbered w → NoneFlies w (suc w.departed) → IsNextArrival w None
all_none w h none i =
    elim (cases_lt i (suc w.departed)) [
      | inl below ↦ none i below
      | inr past ↦ ap is_on_fibre (h i (omega (arith, past)))
    ]

all_first : (w : WorldAt) (i : ℕ) (due : ℤ) → IsNumbered w → IsFirst w (suc w.departed) i due → IsNextArrival w (Some (i, due))
all_first w i due h first = (
  first.frame,
  first.there,
  first.flies,
  first.is,
  λ j g there flies.
      elim (cases_lt j (suc w.departed)) [
        | inl below ↦ first.others j g below there flies
        | inr past ↦ absurd (true≢false (sym flies ∙ ap is_on_fibre (h j (omega (arith, past)))))
      ],
)

arrival_by : (w : WorldAt) → IsNumbered w → Found w (suc w.departed) → (due : Option (ℕ × ℤ)) × IsNextArrival w due
arrival_by w h (inl none) = (None, all_none w h none)
arrival_by w h (inr first) = (Some (first.0, first.1), all_first w first.0 first.1 h first.2)

-- so after all events one frame is due first, or no frame is on a fibre
pub next_arrival : (s : Setting) (events : List Happened) → (due : Option (ℕ × ℤ)) × IsNextArrival (world_after s events) due
next_arrival s events = arrival_by (world_after s events) (numbered_after s events) (found_below (world_after s events) (suc (world_after s events).departed))
