-- The frame on a fibre that is due first: the first of those that are ordered by the times at which they are due.
use Rattle.std.proofs.Common.{◌≡◌, ◌∙◌, refl, ap, sym, subst, ℕ, ◌<◌, ◌≤◌, ◌⊎◌, inl, inr, ℤ, ◌<ℤ◌, Bool, true, false, cond, List, [], ◌∷◌, length, Option, None, Some, arith}
use Rattle.std.proofs.lemmas.Bool.{false_from_ne_true}
use Rattle.std.proofs.lemmas.Int.{ints}
use Rattle.std.specs.BTreeMap.{is_at}
use Rattle.std.specs.Cmp.{int_ranks, ranks}
use Rattle.std.specs.Option.{option_map_or}
use Rattle.std.specs.Ordering.{int_cmp, nat_cmp, ordering_then, is_gt, MatchOrdering}
use Rattle.std.specs.declared.cmp.Ordering.{Ordering}
use Rattle.std.specs.declared.cmp.Ordering.TheVariants.{Less, Equal, Greater}
use Rattle.wrp_flights.specs.declared.departed.Departed.{Departed}
use Rattle.wrp_flights.specs.Ages.{age_cmp, has}
use Rattle.wrp_flights.specs.Departed.{is_on}
use Rattle.wrp_flights.specs.Frames.{at, on_at}
use Rattle.wrp_flights.specs.Next.{Dues, FirstIs, IsFirst, IsSoonest, Orders, TookLanded}
use Rattle.wrp_flights.proofs.Putting.{same_number_of}

no : false ≡ true → ⊥
no e = cc

-- Which of two comes first

no_later : (a b : ℤ × ℕ) → is_gt (age_cmp a b) ≡ false → (a.0 <ℤ b.0) ⊎ ((a.0 ≡ b.0) × (a.1 ≤ b.1))
no_later a b e = by_ranks (int_cmp a.0 b.0) (nat_cmp a.1 b.1) (int_ranks a.0 b.0) (ranks a.1 b.1) e where
  by_ranks : (r s : Ordering) → MatchOrdering r (a.0 <ℤ b.0) (a.0 ≡ b.0) (b.0 <ℤ a.0) → MatchOrdering s (a.1 < b.1) (a.1 ≡ b.1) (b.1 < a.1) →
      is_gt (ordering_then r s) ≡ false → (a.0 <ℤ b.0) ⊎ ((a.0 ≡ b.0) × (a.1 ≤ b.1))
  by_ranks Less s m n e = inl m
  by_ranks Equal Less m n e = inr (m, omega (arith, n))
  by_ranks Equal Equal m n e = inr (m, omega (arith, n))
  by_ranks Equal Greater m n e = absurd cc
  by_ranks Greater s m n e = absurd cc

-- if both of two come first, they have the same number
one_first : (a b : ℤ × ℕ) → is_gt (age_cmp a b) ≡ false → is_gt (age_cmp b a) ≡ false → a.1 ≡ b.1
one_first a b e f = elim (no_later a b e) [
  | inl less ↦ elim (no_later b a f) [
    | inl more ↦ absurd (omega (arith, ints, less, more))
    | inr same ↦ absurd (omega (arith, ints, less, same.0))
  ]
  | inr alike ↦ elim (no_later b a f) [
    | inl more ↦ absurd (omega (arith, ints, alike.0, more))
    | inr same ↦ omega (arith, alike.1, same.1)
  ]
]

-- Whether the first one's frame is on a fibre

pub first_told : (kept : List (ℕ × Departed)) (dues : List (ℤ × ℕ)) (o : ℤ × ℕ) (b : Bool) → has o.0 o.1 dues ≡ true →
    ((q : ℤ × ℕ) → has q.0 q.1 dues ≡ true → is_gt (age_cmp o q) ≡ false) → on_at kept o.1 ≡ b → FirstIs b kept dues
first_told kept dues o b there least on t k e l = subst (λ q. on_at kept q ≡ b) (one_first o (t, k) (least (t, k) e) (l o.0 o.1 there)) on

pub none_first : (kept : List (ℕ × Departed)) (dues : List (ℤ × ℕ)) (b : Bool) → (0 < length dues → ⊥) → FirstIs b kept dues
none_first kept [] b n t k e l = absurd (no e)
none_first kept (x ∷ dues) b n t k e l = absurd (n (omega arith))

-- The first one is taken out

pub took : (kept : List (ℕ × Departed)) (old new : List (ℤ × ℕ)) (o : ℤ × ℕ) → FirstIs false kept old → has o.0 o.1 old ≡ true →
    ((q : ℤ × ℕ) → has q.0 q.1 old ≡ true → is_gt (age_cmp o q) ≡ false) →
    ((q : ℤ × ℕ) → has q.0 q.1 new ≡ cond (is_at (age_cmp o) q) false (has q.0 q.1 old)) → old ≡ o ∷ new → TookLanded kept old new
took kept old new o f there least u taken_off = record {
  others = λ t k e on. u (t, k) ∙ other t k on (is_at (age_cmp o) (t, k)) refl e;
  fewer = λ t k e. taken (is_at (age_cmp o) (t, k)) (has t k old) (sym (u (t, k)) ∙ e);
  less = subst (λ l. length new < length l) (sym taken_off) (omega arith);
} where
  other : (t : ℤ) (k : ℕ) → on_at kept k ≡ true → (b : Bool) → is_at (age_cmp o) (t, k) ≡ b → has t k old ≡ true → cond b false (has t k old) ≡ true
  other t k on true x e =
      let off : on_at kept o.1 ≡ false = f o.0 o.1 there (λ u q. least (u, q)) in
      absurd (no (sym off ∙ subst (λ q. on_at kept q ≡ true) (sym (same_number_of o (t, k) x)) on))
  other t k on false x e = e

  taken : (b m : Bool) → cond b false m ≡ true → m ≡ true
  taken true m e = absurd (no e)
  taken false m e = e

-- All are taken out before the first one whose frame is on a fibre

pub record Settling (kept : List (ℕ × Departed)) (before now : List (ℤ × ℕ)) : Type 0 where
  pub listed : Dues kept now
  pub fewer : (t : ℤ) (k : ℕ) → has t k now ≡ true → has t k before ≡ true

is_on_at : (kept : List (ℕ × Departed)) (k : ℕ) (d : Departed) → at k kept ≡ Some d → is_on d ≡ true → on_at kept k ≡ true
is_on_at kept k d i on = ap (λ o. option_map_or is_on o false) i ∙ on

pub starts : (kept : List (ℕ × Departed)) (dues : List (ℤ × ℕ)) → Dues kept dues → Settling kept dues dues
starts kept dues l = record { listed = l; fewer = λ t k e. e }

pub settling : (kept : List (ℕ × Departed)) (before now next : List (ℤ × ℕ)) → Settling kept before now → TookLanded kept now next → Settling kept before next
settling kept before now next s t = record {
  listed = λ k d i on. t.others d.due k (s.listed k d i on) (is_on_at kept k d i on);
  fewer = λ u k e. s.fewer u k (t.fewer u k e);
}

-- The first one is due first

pub first_due : (sent : List ℤ) (kept : List (ℕ × Departed)) (dues : List (ℤ × ℕ)) (o : ℤ × ℕ) → Orders sent kept dues → has o.0 o.1 dues ≡ true →
    ((q : ℤ × ℕ) → has q.0 q.1 dues ≡ true → is_gt (age_cmp o q) ≡ false) → IsFirst kept (Some (o.1, o.0))
first_due sent kept dues o s there least = by_frame (at o.1 kept) refl (s.first o.0 o.1 there (λ u q. least (u, q))) where
  by_frame : (p : Option Departed) → at o.1 kept ≡ p → on_at kept o.1 ≡ true → IsSoonest kept o.1 o.0
  by_frame None i on = absurd (no (sym (ap (λ p. option_map_or is_on p false) i) ∙ on))
  by_frame (Some d) i on = record {
    frame = d;
    is = i;
    on = sym (ap (λ p. option_map_or is_on p false) i) ∙ on;
    when = s.dated.due o.0 o.1 d there i;
    least = λ k g j at_k. no_later o (g.due, k) (least (g.due, k) (s.listed k g j at_k));
  }

pub none_due : (sent : List ℤ) (kept : List (ℕ × Departed)) (dues : List (ℤ × ℕ)) → Orders sent kept dues → (0 < length dues → ⊥) → IsFirst kept None
none_due sent kept [] s n = λ k d i. false_from_ne_true (is_on d) (λ on. no (s.listed k d i on))
none_due sent kept (x ∷ dues) s n = absurd (n (omega arith))
