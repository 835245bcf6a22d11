-- The soonest of the tick times of the nodes that are up, if it is known which time is the next one; and that no
-- node ticks now.
use Rattle.std.proofs.Common.{◌≡◌, ◌∙◌, refl, ap, sym, subst, ℕ, zero, suc, ◌+◌, ◌-◌, ◌<◌, ◌≤◌, ◌⊎◌, inl, inr, ℤ, ◌≤ℤ◌, ◌<ℤ◌, ◌&&◌, Bool, true, false, cond, List, [], ◌∷◌, length, map, filter, find, fold, None, Some, slice_get, arith}
use Rattle.std.proofs.lemmas.Int.{ints}
use Rattle.std.specs.List.{AllByRecursion}
use Rattle.std.specs.Ordering.{int_eq}
use Rattle.wrp_plant.specs.Plant.{Each}
use Rattle.wrp_network.specs.Network.{node_count}
use Rattle.wrp_course.specs.Setting.{Setting, from_on, nodes_of}
use Rattle.wrp_course.specs.WorldAt.{WorldAt}
use Rattle.wrp_sim.specs.NextTick.{IsNext, NoneAt, NoneBefore}
use Rattle.wrp_sim.specs.Rules.{sooner, tick_times, ticks_now}
use Rattle.wrp_sim.specs.SimAt.{SimAt}
use Rattle.wrp_sim.proofs.KeepsTime.{fold_least, fold_most}
use Rattle.wrp_sim.proofs.SimLists.{skipped}

-- Numbers from a first one on, some of which pass

-- what holds for each holds for each that passes
all_times : (P : ℤ → Type 0) (f : ℕ → ℤ) (p : ℕ → Bool) (count first : ℕ) → ((i : ℕ) → i < count → P (f (first + i))) →
    AllByRecursion P (map f (filter p (from_on count first)))
all_times P f p zero first h = tt
all_times P f p (suc count) first h = by_first (p first) (all_times P f p count (first + 1) (λ i l. next i l)) where
  here : P (f first)
  here = let plain : first + 0 ≡ first = omega arith in subst (λ n. P (f n)) plain (h 0 (omega arith))

  next : (i : ℕ) → i < count → P (f ((first + 1) + i))
  next i l = let there : first + suc i ≡ (first + 1) + i = omega arith in subst (λ n. P (f n)) there (h (suc i) (omega (arith, l)))

  by_first : (b : Bool) → AllByRecursion P (map f (filter p (from_on count (first + 1)))) →
      AllByRecursion P (map f (cond b (first ∷ filter p (from_on count (first + 1))) (filter p (from_on count (first + 1)))))
  by_first true rest = (here, rest)
  by_first false rest = rest

rest_of : (P : ℤ → Type 0) (f : ℕ → ℤ) (n : ℕ) (ns : List ℕ) (b : Bool) → AllByRecursion P (map f (cond b (n ∷ ns) ns)) → AllByRecursion P (map f ns)
rest_of P f n ns true h = h.1
rest_of P f n ns false h = h

first_of : (P : ℤ → Type 0) (f : ℕ → ℤ) (n : ℕ) (ns : List ℕ) (b : Bool) → b ≡ true → AllByRecursion P (map f (cond b (n ∷ ns) ns)) → P (f n)
first_of P f n ns true e h = h.0
first_of P f n ns false e h = absurd (cc)

-- what holds for each that passes holds for this one
at_time : (P : ℤ → Type 0) (f : ℕ → ℤ) (p : ℕ → Bool) (count first : ℕ) → AllByRecursion P (map f (filter p (from_on count first))) →
    (i : ℕ) → i < count → p (first + i) ≡ true → P (f (first + i))
at_time P f p zero first h i l e = absurd (omega (arith, l))
at_time P f p (suc count) first h zero l e =
    let plain : first ≡ first + 0 = omega arith in
    subst (λ n. P (f n)) plain (first_of P f first (filter p (from_on count (first + 1))) (p first) (ap p plain ∙ e) h)
at_time P f p (suc count) first h (suc i) l e =
    let there : (first + 1) + i ≡ first + suc i = omega arith in
    subst (λ n. P (f n)) there
    (at_time P f p count (first + 1) (rest_of P f first (filter p (from_on count (first + 1))) (p first) h) i (omega (arith, l)) (ap p there ∙ e))

none_found : (p : ℕ → Bool) (count first : ℕ) → ((i : ℕ) → i < count → p (first + i) ≡ false) → find p (from_on count first) ≡ None
none_found p zero first h = refl
none_found p (suc count) first h =
    let plain : first + 0 ≡ first = omega arith in
    ap (λ b. cond b (Some first) (find p (from_on count (first + 1)))) (sym (ap p plain) ∙ h 0 (omega arith))
    ∙ none_found p count (first + 1) (λ i l. next i l) where
      next : (i : ℕ) → i < count → p ((first + 1) + i) ≡ false
      next i l = let there : first + suc i ≡ (first + 1) + i = omega arith in sym (ap p there) ∙ h (suc i) (omega (arith, l))

-- a place of a list
time_at : (xs : List ℤ) (k : ℕ) → k < length xs → (x : ℤ) × (slice_get xs k ≡ Some x)
time_at [] k h = absurd (omega (arith, h))
time_at (x ∷ xs) zero h = (x, refl)
time_at (x ∷ xs) (suc k) h = time_at xs k (omega (arith, h))

-- Moments

-- a moment that is no later than the best one, and no later than those after now, is no later than
-- the sooner one
above_sooner : (now lo best t : ℤ) → lo ≤ℤ best → (t ≤ℤ now) ⊎ (lo ≤ℤ t) → lo ≤ℤ sooner now best t
above_sooner now lo best t l (inl h) = grind (arith, ints)
above_sooner now lo best t l (inr h) = grind (arith, ints)

fold_above : (now lo best : ℤ) (times : List ℤ) → lo ≤ℤ best → AllByRecursion (λ t. (t ≤ℤ now) ⊎ (lo ≤ℤ t)) times → lo ≤ℤ fold (sooner now) best times
fold_above now lo best [] l h = l
fold_above now lo best (t ∷ times) l h = fold_above now lo (sooner now best t) times (above_sooner now lo best t l h.0) h.1

sooner_than : (now other t x : ℤ) → now <ℤ t → t ≤ℤ x → sooner now other t ≤ℤ x
sooner_than now other t x l h = grind (arith, ints)

lower : (now other t x : ℤ) → now <ℤ t → (x ≤ℤ now) ⊎ (t ≤ℤ x) → (x ≤ℤ now) ⊎ (sooner now other t ≤ℤ x)
lower now other t x l (inl h) = inl h
lower now other t x l (inr h) = inr (sooner_than now other t x l h)

no_later : (now other t x : ℤ) → x ≤ℤ other → x ≤ℤ t → x ≤ℤ sooner now other t
no_later now other t x h k = grind (arith, ints)

than_other : (now other t : ℤ) → sooner now other t ≤ℤ other
than_other now other t = grind (arith, ints)

both_ways : (x y : ℤ) → x ≤ℤ y → y ≤ℤ x → x ≡ y
both_ways x y h k = omega (arith, ints, h, k)

pub soonest_known : (s : Setting) (w : WorldAt) (at : SimAt) (ticks : List ℤ) (now other : ℤ) (n : ℕ) (t : ℤ) → length ticks ≡ node_count s.cfg →
    Each (λ m x. x ≡ at.tick_at m) ticks → IsNext now ticks n t → n < length ticks → (w.clock n).up ≡ true → now <ℤ other →
    sooner now other t ≡ fold (sooner now) other (tick_times s w at)
soonest_known s w at ticks now other n t count each next within up later =
    both_ways (sooner now other t) (fold (sooner now) other (tick_times s w at))
    (fold_above now (sooner now other t) other (tick_times s w at) (than_other now other t)
    (all_times (λ x. (x ≤ℤ now) ⊎ (sooner now other t ≤ℤ x)) at.tick_at (λ m. (w.clock m).up) (node_count s.cfg) 0 (λ i l. none_between i l)))
    (no_later now other t (fold (sooner now) other (tick_times s w at)) (fold_most now other (tick_times s w at) later) least) where
      none_between : (i : ℕ) → i < node_count s.cfg → (at.tick_at (0 + i) ≤ℤ now) ⊎ (sooner now other t ≤ℤ at.tick_at (0 + i))
      none_between i l =
          let plain : i ≡ 0 + i = omega arith in
          let it : (x : ℤ) × (slice_get ticks i ≡ Some x) = time_at ticks i (subst (λ m. i < m) (sym count) l) in
          subst (λ z. (z ≤ℤ now) ⊎ (sooner now other t ≤ℤ z)) (each i it.0 it.1 ∙ ap at.tick_at plain)
          (lower now other t it.0 next.later (next.least i it.0 it.1))

      is : t ≡ at.tick_at n
      is = each n t next.there

      least : fold (sooner now) other (tick_times s w at) ≤ℤ t
      least =
          let plain : n ≡ 0 + n = omega arith in
          let at_n = at_time (λ x. now <ℤ x → fold (sooner now) other (tick_times s w at) ≤ℤ x) at.tick_at (λ m. (w.clock m).up) (node_count s.cfg) 0
          (fold_least now other (tick_times s w at) later) n (subst (λ m. n < m) count within) (ap (λ m. (w.clock m).up) (sym plain) ∙ up) in
          subst (λ z. fold (sooner now) other (tick_times s w at) ≤ℤ z) (ap at.tick_at (sym plain) ∙ sym is)
          (at_n (subst (λ z. now <ℤ z) (is ∙ ap at.tick_at plain) next.later))

-- Ticks

not_up : (b : Bool) → (b && false) ≡ false
not_up true = refl
not_up false = refl

pub none_ticks : (s : Setting) (w : WorldAt) (at : SimAt) (ticks : List ℤ) → length ticks ≡ node_count s.cfg → Each (λ m x. x ≡ at.tick_at m) ticks →
    NoneAt w.time ticks → None ≡ find (ticks_now w at) (nodes_of s)
none_ticks s w at ticks count each none = sym (none_found (ticks_now w at) (node_count s.cfg) 0 (λ i l. not_now i l)) where
  not_now : (i : ℕ) → i < node_count s.cfg → ticks_now w at (0 + i) ≡ false
  not_now i l =
      let plain : i ≡ 0 + i = omega arith in
      let it : (x : ℤ) × (slice_get ticks i ≡ Some x) = time_at ticks i (subst (λ m. i < m) (sym count) l) in
      ap (λ b. (w.clock (0 + i)).up && b) (ap (λ z. int_eq z w.time) (ap at.tick_at (sym plain) ∙ sym (each i it.0 it.1)) ∙ none i it.0 it.1)
      ∙ not_up (w.clock (0 + i)).up

-- the nodes before a place do not tick if none of their times is now
pub skips_ticks : (w : WorldAt) (at : SimAt) (ticks : List ℤ) (count start : ℕ) → count ≤ length ticks → Each (λ m x. x ≡ at.tick_at m) ticks →
    NoneBefore w.time ticks start → find (ticks_now w at) (from_on (count - start) start) ≡ find (ticks_now w at) (from_on count 0)
skips_ticks w at ticks count start most each none = skipped (ticks_now w at) count start (λ i l m. not_now i l m) where
  not_now : (i : ℕ) → i < start → i < count → ticks_now w at i ≡ false
  not_now i l m =
      let it : (x : ℤ) × (slice_get ticks i ≡ Some x) = time_at ticks i (omega (arith, most, m)) in
      ap (λ b. (w.clock i).up && b) (ap (λ z. int_eq z w.time) (sym (each i it.0 it.1)) ∙ none i it.0 l it.1)
      ∙ not_up (w.clock i).up
