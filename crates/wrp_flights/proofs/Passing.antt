-- Frames leave the window, one after the other.
use Rattle.std.proofs.Common.{◌≡◌, ◌∙◌, refl, ap, sym, subst, ℕ, ℤ, ◌<ℤ◌, ◌≤ℤ◌, ◌⊎◌, inl, inr, Bool, true, false, cond, if◌then◌else◌, List, Option, None, Some, arith}
use Rattle.std.proofs.lemmas.Int.{ints}
use Rattle.std.proofs.lemmas.Map.Lookups.{exact_unsigned}
use Rattle.std.specs.BTreeMap.{is_at}
use Rattle.std.specs.Int.Signed.{le_z}
use Rattle.std.specs.Ordering.{nat_cmp, is_eq}
use Rattle.std.specs.declared.cmp.Ordering.{Ordering}
use Rattle.std.specs.declared.cmp.Ordering.TheVariants.{Less, Equal, Greater}
use Rattle.wrp_flights.specs.declared.departed.Departed.{Departed}
use Rattle.wrp_flights.specs.Ages.{Listed, NoneOld, Owns, TookOld, has, on_only}
use Rattle.wrp_flights.specs.Departed.{is_on, is_young, kept_in}
use Rattle.wrp_flights.specs.Frames.{at}

-- at each number: what was kept stays, or is gone because it is on no fibre and old
abbrev pub StaysOrOld : ℤ → (before now : Option Departed) → Type 0
StaysOrOld h before now = (now ≡ before) ⊎ ((now ≡ None) × (kept_in h before ≡ None))

pub record Passing (h : ℤ) (before : List (ℕ × Departed)) (ages : List (ℤ × ℕ)) (kept : List (ℕ × Departed)) (left : List (ℤ × ℕ)) : Type 0 where
  pub same : (k : ℕ) → StaysOrOld h (at k before) (at k kept)
  pub listed : Listed h kept left
  pub fewer : (t : ℤ) (k : ℕ) → has t k left ≡ true → has t k ages ≡ true

pub starts : (h : ℤ) (kept : List (ℕ × Departed)) (ages : List (ℤ × ℕ)) → Listed h kept ages → Passing h kept ages kept ages
starts h kept ages l = record { same = λ k. inl refl; listed = l; fewer = λ t k e. e }

-- numbers

pub equal_is : (r : Ordering) → is_eq r ≡ true → r ≡ Equal
equal_is Less e = absurd cc
equal_is Equal e = refl
equal_is Greater e = absurd cc

pub same_number : (k q : ℕ) → is_at (nat_cmp k) q ≡ true → k ≡ q
same_number k q e = exact_unsigned k q (equal_is (nat_cmp k q) e)

-- a frame

none_is : (f : Departed) → None ≡ Some f → ⊥
none_is f e = cc

not_young : (h t : ℤ) (f : Departed) → t <ℤ h → f.sent ≡ t → is_young h f ≡ false
not_young h t f l e = by_test (le_z h f.sent) refl where
  by_test : (b : Bool) → le_z h f.sent ≡ b → le_z h f.sent ≡ false
  by_test true g = absurd (omega (arith, ints, l, e, g))
  by_test false g = g

pub is_late : (a b : ℤ) → a ≤ℤ b → le_z a b ≡ true
is_late a b l = by_test (le_z a b) refl where
  by_test : (x : Bool) → le_z a b ≡ x → le_z a b ≡ true
  by_test true g = g
  by_test false g = absurd (omega (arith, ints, l, g))

some_is : (f g : Departed) → Some f ≡ Some g → f ≡ g
some_is f g e = cc

on_kept : (f : Departed) → is_on f ≡ true → on_only (Some f) ≡ Some f
on_kept f e = ap (λ b. if b then Some f else None) e

on_not : (f : Departed) → is_on f ≡ false → on_only (Some f) ≡ None
on_not f e = ap (λ b. if b then Some f else None) e

pub kept_on : (h : ℤ) (f : Departed) → is_on f ≡ true → kept_in h (Some f) ≡ Some f
kept_on h f e = ap (λ b. if (if b then true else is_young h f) then Some f else None) e

pub kept_inf : (h : ℤ) (f : Departed) (b : Bool) → is_on f ≡ false → is_young h f ≡ b → kept_in h (Some f) ≡ (if b then Some f else None)
kept_inf h f b e g = ap (λ x. if (if x then true else is_young h f) then Some f else None) e ∙ ap (λ x. if x then Some f else None) g

on_only_is : (o : Option Departed) (f : Departed) → on_only o ≡ Some f → (o ≡ Some f) × (is_on f ≡ true)
on_only_is None f e = absurd (none_is f e)
on_only_is (Some g) f e = by_test (is_on g) refl where
  by_test : (b : Bool) → is_on g ≡ b → (Some g ≡ Some f) × (is_on f ≡ true)
  by_test true on = let same : Some g ≡ Some f = sym (on_kept g on) ∙ e in (same, subst (λ x. is_on x ≡ true) (some_is g f same) on)
  by_test false off = absurd (none_is f (sym (on_not g off) ∙ e))

-- One leaves the window

was_there : (h : ℤ) (before now : Option Departed) (f : Departed) → StaysOrOld h before now → now ≡ Some f → before ≡ Some f
was_there h before now f s e = elim s [ inl same ↦ sym same ∙ e | inr out ↦ absurd (none_is f (sym out.0 ∙ e)) ]

pub step :
    (h : ℤ) (before : List (ℕ × Departed)) (ages : List (ℤ × ℕ)) (kept : List (ℕ × Departed)) (left : List (ℤ × ℕ)) (k : ℕ) (after : List (ℕ × Departed)) (rest : List (ℤ × ℕ)) →
    Owns before ages → Passing h before ages kept left → TookOld h left rest k →
    ((q : ℕ) → at q after ≡ cond (is_at (nat_cmp k) q) (on_only (at q kept)) (at q kept)) → Passing h before ages after rest
step h before ages kept left k after rest own p t out = record {
  same = λ q. same_at q (at q kept) (is_at (nat_cmp k) q) (at q after) refl refl (out q);
  listed = λ q f e on. listed_at q f (is_at (nat_cmp k) q) refl (sym (out q) ∙ e) on;
  fewer = λ u q e. p.fewer u q (t.fewer u q e);
} where
  old_one : (q : ℕ) (f : Departed) → k ≡ q → at q kept ≡ Some f → is_young h f ≡ false
  old_one q f same e =
      let there : has t.time q ages ≡ true = p.fewer t.time q (subst (λ n. has t.time n left ≡ true) same t.was) in
      not_young h t.time f t.is_old (own t.time q f there (was_there h (at q before) (at q kept) f (p.same q) e))

  same_at : (q : ℕ) (o : Option Departed) (b : Bool) (n : Option Departed) → o ≡ at q kept → is_at (nat_cmp k) q ≡ b → n ≡ cond b (on_only o) o → StaysOrOld h (at q before) n
  same_at q o false n e g f = subst (StaysOrOld h (at q before)) (sym (f ∙ e)) (p.same q)
  same_at q None true n e g f = subst (StaysOrOld h (at q before)) (sym (f ∙ e)) (p.same q)
  same_at q (Some x) true n e g f = by_test (is_on x) refl where
    by_test : (b : Bool) → is_on x ≡ b → StaysOrOld h (at q before) n
    by_test true on = subst (StaysOrOld h (at q before)) (sym (f ∙ on_kept x on ∙ e)) (p.same q)
    by_test false off =
        let was : at q before ≡ Some x = was_there h (at q before) (at q kept) x (p.same q) (sym e) in
        inr (f ∙ on_not x off, ap (kept_in h) was ∙ kept_inf h x false off (old_one q x (same_number k q g) (sym e)))

  listed_at : (q : ℕ) (f : Departed) (b : Bool) → is_at (nat_cmp k) q ≡ b → cond b (on_only (at q kept)) (at q kept) ≡ Some f → (is_on f ≡ false) ⊎ (is_young h f ≡ true) → has f.sent q rest ≡ true
  listed_at q f false g e on = t.others f.sent q (p.listed q f e on) g
  listed_at q f true g e on =
      let it : (at q kept ≡ Some f) × (is_on f ≡ true) = on_only_is (at q kept) f e in
      let old : is_young h f ≡ false = old_one q f (same_number k q g) it.0 in
      elim on [ inl off ↦ absurd cc | inr young ↦ absurd cc ]

-- All that are old have left the window

pub all_out :
    (h : ℤ) (before : List (ℕ × Departed)) (ages : List (ℤ × ℕ)) (kept : List (ℕ × Departed)) (left : List (ℤ × ℕ)) →
    Passing h before ages kept left → NoneOld h left → (k : ℕ) → at k kept ≡ kept_in h (at k before)
all_out h before ages kept left p none k = elim (p.same k) [ inl e ↦ stays (at k kept) refl e | inr out ↦ out.0 ∙ sym out.1 ] where
  stays : (o : Option Departed) → at k kept ≡ o → at k kept ≡ at k before → at k kept ≡ kept_in h (at k before)
  stays None e same = e ∙ ap (kept_in h) (sym e ∙ same)
  stays (Some f) e same = e ∙ sym (by_test (is_on f) refl) ∙ ap (kept_in h) (sym e ∙ same) where
    young : is_on f ≡ false → is_young h f ≡ true
    young off = let late : h ≤ℤ f.sent = none f.sent k (p.listed k f e (inl off)) in is_late h f.sent late

    by_test : (b : Bool) → is_on f ≡ b → kept_in h (Some f) ≡ Some f
    by_test true on = kept_on h f on
    by_test false off = kept_inf h f true off (young off)
