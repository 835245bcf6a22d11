-- The first of the times at which nodes tick.
use Rattle.std.proofs.Common.{◌≡◌, ◌∙◌, refl, ap, sym, subst, ℕ, ◌+◌, ◌*◌, ◌/◌, ◌<◌, ◌≤◌, ◌⊎◌, inl, inr, ℤ, ◌≤ℤ◌, ◌<ℤ◌, ◌&&◌, Bool, true, false, if◌then◌else◌, List, length, nat_lt, Option, None, Some, IfSome, slice_get, slice_set, arith}
use Rattle.std.proofs.lemmas.Int.{ints}
use Rattle.std.proofs.lemmas.Option.{same_Some, slice_get_within}
use Rattle.std.specs.Int.Signed.{le_z, lt_z}
use Rattle.std.specs.Ordering.{int_eq}
use Rattle.wrp_sim.specs.declared.ticks.First.{First}
use Rattle.wrp_sim.specs.NextTick.{AreFirsts, IsFirstOf, IsNext, IsNoEarlier, earlier_of, is_sooner, sooner_of, time_of}
use Rattle.wrp_sim.proofs.SimLists.{each_set}

below_next : (n i : ℕ) → n < i + 1 → (n ≡ i) ⊎ (n < i)
below_next n i h = by_test (nat_lt n i) refl where
  by_test : (b : Bool) → nat_lt n i ≡ b → (n ≡ i) ⊎ (n < i)
  by_test true e = inr (grind arith)
  by_test false e = inl (grind arith)

same_time : (x y : ℤ) → x ≤ℤ y → y ≤ℤ x → x ≡ y
same_time x y h k = omega (arith, ints, h, k)

-- The first one and a time at its place

from_least : (first : First) (n : ℕ) (t : ℤ) → first.best ≤ℤ t → first.place ≤ n → IsNoEarlier first n t
from_least first n t h p = by_test (lt_z first.best t) refl where
  by_test : (b : Bool) → lt_z first.best t ≡ b → IsNoEarlier first n t
  by_test true e = inl (grind (arith, ints))
  by_test false e = let most : t ≤ℤ first.best = grind (arith, ints) in inr (same_time first.best t h most, p)

-- what is before the first one is before each of the times
below : (first : First) (at : ℤ) (n : ℕ) (t : ℤ) → at <ℤ first.best → IsNoEarlier first n t → at <ℤ t
below first at n t l (inl h) = omega (arith, ints, l, h)
below first at n t l (inr h) = omega (arith, ints, l, h.0)

at_most : (first : First) (at : ℤ) (n : ℕ) (t : ℤ) → at ≤ℤ first.best → IsNoEarlier first n t → at ≤ℤ t
at_most first at n t l (inl h) = omega (arith, ints, l, h)
at_most first at n t l (inr h) = omega (arith, ints, l, h.0)

-- a later moment
until : (old since : ℤ) (first : First) (n : ℕ) (t : ℤ) → old ≤ℤ since → (t <ℤ old) ⊎ IsNoEarlier first n t →
    (t <ℤ since) ⊎ IsNoEarlier first n t
until old since first n t o (inl l) = inl (omega (arith, ints, o, l))
until old since first n t o (inr h) = inr h

-- One more time

sooner : (since best at : ℤ) → is_sooner since best at ≡ true → at <ℤ best
sooner since best at e = grind (arith, ints)

not_sooner : (since best at : ℤ) → is_sooner since best at ≡ false → (at <ℤ since) ⊎ (best ≤ℤ at)
not_sooner since best at e = by_test (lt_z at best) refl where
  by_test : (b : Bool) → lt_z at best ≡ b → (at <ℤ since) ⊎ (best ≤ℤ at)
  by_test true f = inl (grind (arith, ints))
  by_test false f = inr (grind (arith, ints))

not_before : (since : ℤ) (first : First) (at : ℤ) (i : ℕ) → first.place ≤ i → (at <ℤ since) ⊎ (first.best ≤ℤ at) →
    (at <ℤ since) ⊎ IsNoEarlier first i at
not_before since first at i p (inl l) = inl l
not_before since first at i p (inr l) = inr (from_least first i at l p)

-- it is not before the new first one
one_has : (b : Bool) (since : ℤ) (first : First) (at : ℤ) (i : ℕ) → is_sooner since first.best at ≡ b → first.place ≤ i →
    (at <ℤ since) ⊎ IsNoEarlier (if b then time_of at i else first) i at
one_has true since first at i e p = inr (inr (refl, omega arith))
one_has false since first at i e p = not_before since first at i p (not_sooner since first.best at e)

-- the others are not
others_have : (b : Bool) (since : ℤ) (first : First) (at : ℤ) (i n : ℕ) (t : ℤ) → is_sooner since first.best at ≡ b →
    (t <ℤ since) ⊎ IsNoEarlier first n t → (t <ℤ since) ⊎ IsNoEarlier (if b then time_of at i else first) n t
others_have b since first at i n t e (inl l) = inl l
others_have true since first at i n t e (inr h) = inr (inl (below first at n t (sooner since first.best at e) h))
others_have false since first at i n t e (inr h) = inr h

one_place : (b : Bool) (first : First) (at : ℤ) (i most : ℕ) → first.place ≤ most → i ≤ most →
    (if b then time_of at i else first).place ≤ most
one_place true first at i most p h = h
one_place false first at i most p h = p

pub sooner_place : (since : ℤ) (first : First) (at : ℤ) (i most : ℕ) → first.place ≤ most → i ≤ most →
    (sooner_of since first at i).place ≤ most
sooner_place since first at i most p h = one_place (is_sooner since first.best at) first at i most p h

pub first_next : (since : ℤ) (ticks : List ℤ) (start i : ℕ) (first : First) (at : ℤ) → slice_get ticks i ≡ Some at → first.place ≤ i →
    IsFirstOf since ticks start i first → IsFirstOf since ticks start (i + 1) (sooner_of since first at i)
first_next since ticks start i first at e p h n t l m g = by_case (below_next n i m) where
  by_case : (n ≡ i) ⊎ (n < i) → (t <ℤ since) ⊎ IsNoEarlier (sooner_of since first at i) n t
  by_case (inl same) =
      let is : at ≡ t = same_Some at t (sym e ∙ ap (slice_get ticks) (sym same) ∙ g) in
      subst (λ (z : ℤ). (z <ℤ since) ⊎ IsNoEarlier (sooner_of since first at i) n z) is
      (subst (λ (k : ℕ). (at <ℤ since) ⊎ IsNoEarlier (sooner_of since first at i) k at) (sym same)
      (one_has (is_sooner since first.best at) since first at i refl p))
  by_case (inr less) = others_have (is_sooner since first.best at) since first at i n t refl (h n t l less g)

-- One more block

pub earlier_place : (b : Bool) (first other : First) (most : ℕ) → first.place ≤ most → other.place ≤ most →
    (if b then other else first).place ≤ most
earlier_place true first other most p q = q
earlier_place false first other most p q = p

earlier_keeps : (b : Bool) (since : ℤ) (first other : First) (n : ℕ) (t : ℤ) → lt_z other.best first.best ≡ b →
    (t <ℤ since) ⊎ IsNoEarlier first n t → (t <ℤ since) ⊎ IsNoEarlier (if b then other else first) n t
earlier_keeps b since first other n t e (inl l) = inl l
earlier_keeps true since first other n t e (inr h) =
    let less : other.best <ℤ first.best = grind (arith, ints) in inr (inl (below first other.best n t less h))
earlier_keeps false since first other n t e (inr h) = inr h

earlier_has : (b : Bool) (since : ℤ) (first other : First) (n : ℕ) (t : ℤ) → lt_z other.best first.best ≡ b → first.place ≤ n →
    (t <ℤ since) ⊎ IsNoEarlier other n t → (t <ℤ since) ⊎ IsNoEarlier (if b then other else first) n t
earlier_has b since first other n t e p (inl l) = inl l
earlier_has true since first other n t e p (inr h) = inr h
earlier_has false since first other n t e p (inr h) =
    let most : first.best ≤ℤ other.best = grind (arith, ints) in
    inr (from_least first n t (at_most other first.best n t most h) p)

pub block_next : (since : ℤ) (ticks : List ℤ) (b : ℕ) (first other : First) → first.place ≤ b * 8 →
    IsFirstOf since ticks 0 (b * 8) first → IsFirstOf since ticks (b * 8) (b * 8 + 8) other →
    IsFirstOf since ticks 0 ((b + 1) * 8) (earlier_of first other)
block_next since ticks b first other p h k n t l m g = by_test (nat_lt n (b * 8)) refl where
  by_test : (c : Bool) → nat_lt n (b * 8) ≡ c → (t <ℤ since) ⊎ IsNoEarlier (earlier_of first other) n t
  by_test true e =
      let less : n < b * 8 = grind arith in
      earlier_keeps (lt_z other.best first.best) since first other n t refl (h n t l less g)
  by_test false e =
      let low : b * 8 ≤ n = grind arith in
      let place : first.place ≤ n = omega (arith, p, low) in
      let high : n < b * 8 + 8 = omega (arith, m) in
      earlier_has (lt_z other.best first.best) since first other n t refl place (k n t low high g)

-- The first times of blocks

-- those of the first blocks
pub record FirstsTo (since : ℤ) (ticks : List ℤ) (b : ℕ) (firsts : List First) : Type 0 where
  pub place : (p : ℕ) (first : First) → slice_get firsts p ≡ Some first → p < b → first.place ≤ p * 8 + 8
  pub least : (p : ℕ) (first : First) → slice_get firsts p ≡ Some first → p < b → IsFirstOf since ticks (p * 8) (p * 8 + 8) first

pub no_blocks : (since : ℤ) (ticks : List ℤ) (firsts : List First) → FirstsTo since ticks 0 firsts
no_blocks since ticks firsts = record {
  place = λ p first e l. absurd (omega (arith, l));
  least = λ p first e l. absurd (omega (arith, l));
}

pub blocks_next : (since : ℤ) (ticks : List ℤ) (b : ℕ) (firsts : List First) (first : First) → first.place ≤ b * 8 + 8 →
    IsFirstOf since ticks (b * 8) (b * 8 + 8) first → FirstsTo since ticks b firsts → FirstsTo since ticks (b + 1) (slice_set firsts b first)
blocks_next since ticks b firsts first p h to = record {
  place = each_set (λ (m : ℕ) (f : First). m < b → f.place ≤ m * 8 + 8) (λ (m : ℕ) (f : First). m < b + 1 → f.place ≤ m * 8 + 8)
      firsts b first to.place (λ l. p) (λ m f differs old l. old (omega (arith, l, differs)));
  least = each_set (λ (m : ℕ) (f : First). m < b → IsFirstOf since ticks (m * 8) (m * 8 + 8) f)
      (λ (m : ℕ) (f : First). m < b + 1 → IsFirstOf since ticks (m * 8) (m * 8 + 8) f)
      firsts b first to.least (λ l. h) (λ m f differs old l. old (omega (arith, l, differs)));
}

pub all_blocks : (since : ℤ) (ticks : List ℤ) (b : ℕ) (firsts : List First) → length firsts ≤ b → FirstsTo since ticks b firsts →
    AreFirsts since ticks firsts
all_blocks since ticks b firsts few to = record {
  place = λ p first e. let l : p < length firsts = slice_get_within firsts p first e in to.place p first e (omega (arith, few, l));
  least = λ p first e. let l : p < length firsts = slice_get_within firsts p first e in to.least p first e (omega (arith, few, l));
}

-- One time is set

same_block : (old since : ℤ) (ticks : List ℤ) (n : ℕ) (time : ℤ) (b : ℕ) (first : First) → old ≤ℤ since → (b ≡ n / 8 → ⊥) →
    IsFirstOf old ticks (b * 8) (b * 8 + 8) first → IsFirstOf since (slice_set ticks n time) (b * 8) (b * 8 + 8) first
same_block old since ticks n time b first o other h m t l k g =
    each_set (λ (j : ℕ) (x : ℤ). b * 8 ≤ j → j < b * 8 + 8 → (x <ℤ old) ⊎ IsNoEarlier first j x)
    (λ (j : ℕ) (x : ℤ). b * 8 ≤ j → j < b * 8 + 8 → (x <ℤ since) ⊎ IsNoEarlier first j x)
    ticks n time (λ j x e low high. h j x low high e) (λ low high. absurd (other (its_block low high)))
    (λ j x differs past low high. until old since first j x o (past low high)) m t g l k where
      its_block : b * 8 ≤ n → n < b * 8 + 8 → b ≡ n / 8
      its_block low high = omega (arith, low, high)

pub firsts_set : (old since : ℤ) (ticks : List ℤ) (n : ℕ) (time : ℤ) (firsts : List First) (first : First) → old ≤ℤ since →
    AreFirsts old ticks firsts → first.place ≤ n / 8 * 8 + 8 → IsFirstOf since (slice_set ticks n time) (n / 8 * 8) (n / 8 * 8 + 8) first →
    AreFirsts since (slice_set ticks n time) (slice_set firsts (n / 8) first)
firsts_set old since ticks n time firsts first o all p h = record {
  place = each_set (λ (b : ℕ) (f : First). f.place ≤ b * 8 + 8) (λ (b : ℕ) (f : First). f.place ≤ b * 8 + 8)
      firsts (n / 8) first all.place p (λ b f other e. e);
  least = each_set (λ (b : ℕ) (f : First). IsFirstOf old ticks (b * 8) (b * 8 + 8) f)
      (λ (b : ℕ) (f : First). IsFirstOf since (slice_set ticks n time) (b * 8) (b * 8 + 8) f)
      firsts (n / 8) first all.least h (λ b f other e. same_block old since ticks n time b f o other e);
}

-- What is known of now, if the moment has come

not_now : (t now : ℤ) → (t <ℤ now) ⊎ (now <ℤ t) → int_eq t now ≡ false
not_now t now (inl l) = grind (arith, ints)
not_now t now (inr l) = grind (arith, ints)

pub none_now : (now since : ℤ) (first : First) (n : ℕ) (t : ℤ) → (le_z since now && lt_z now first.best) ≡ true →
    (t <ℤ since) ⊎ IsNoEarlier first n t → int_eq t now ≡ false
none_now now since first n t is (inl l) =
    let come : since ≤ℤ now = grind (arith, ints) in
    not_now t now (inl (omega (arith, ints, come, l)))
none_now now since first n t is (inr h) =
    let ahead : now <ℤ first.best = grind (arith, ints) in
    not_now t now (inr (below first now n t ahead h))

-- no time is now at a place before the first one
pub none_earlier : (now since : ℤ) (first : First) (n : ℕ) (t : ℤ) → (le_z since now && le_z now first.best) ≡ true → n < first.place →
    (t <ℤ since) ⊎ IsNoEarlier first n t → int_eq t now ≡ false
none_earlier now since first n t is l (inl o) =
    let come : since ≤ℤ now = grind (arith, ints) in
    not_now t now (inl (omega (arith, ints, come, o)))
none_earlier now since first n t is l (inr (inl h)) =
    let left : now ≤ℤ first.best = grind (arith, ints) in
    not_now t now (inr (omega (arith, ints, left, h)))
none_earlier now since first n t is l (inr (inr h)) = absurd (omega (arith, l, h.1))

-- The first time is the next one, if the moment has come and the first time has not

since_or : (now since : ℤ) (first : First) (at : ℤ) (n : ℕ) (t : ℤ) → since ≤ℤ now → at ≡ first.best → (t <ℤ since) ⊎ IsNoEarlier first n t →
    (t ≤ℤ now) ⊎ (at ≤ℤ t)
since_or now since first at n t h e (inl l) = inl (omega (arith, ints, h, l))
since_or now since first at n t h e (inr l) = inr (at_most first at n t (omega (arith, ints, e)) l)

pub next_is : (now since : ℤ) (first : First) (ticks : List ℤ) (n : ℕ) (at : ℤ) →
    ((m : ℕ) (t : ℤ) → slice_get ticks m ≡ Some t → (t <ℤ since) ⊎ IsNoEarlier first m t) →
    (le_z since now && lt_z now first.best) ≡ true → at ≡ first.best → slice_get ticks n ≡ Some at → IsNext now ticks n at
next_is now since first ticks n at least e is there =
    let come : since ≤ℤ now = grind (arith, ints) in
    let ahead : now <ℤ first.best = grind (arith, ints) in
    record {
      there = there;
      later = omega (arith, ints, is, ahead);
      least = λ m t g. since_or now since first at m t come is (least m t g);
    }

pub some_next : (now since : ℤ) (first : First) (ticks : List ℤ) (o : Option (ℕ × ℤ)) →
    ((m : ℕ) (t : ℤ) → slice_get ticks m ≡ Some t → (t <ℤ since) ⊎ IsNoEarlier first m t) → (le_z since now && lt_z now first.best) ≡ true →
    IfSome o (λ (next : ℕ × ℤ). (next.1 ≡ first.best) × (slice_get ticks next.0 ≡ Some next.1)) →
    IfSome o (λ (next : ℕ × ℤ). IsNext now ticks next.0 next.1)
some_next now since first ticks None least e h = tt
some_next now since first ticks (Some next) least e h = next_is now since first ticks next.0 next.1 least e h.0 h.1
