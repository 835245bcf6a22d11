-- How many frames are kept.
use Rattle.std.proofs.Common.{◌≡◌, ◌∙◌, refl, ap, ap₂, sym, ℕ, zero, suc, ℤ, ◌+◌, ◌<◌, ◌≤◌, ◌==◌, Bool, true, false, cond, List, [], ◌∷◌, length, Option, None, Some, count_by, arith}
use Rattle.std.proofs.lemmas.List.Sums.{sum_by-cons}
use Rattle.std.proofs.lemmas.Option.{slice_get_within}
use Rattle.std.specs.BTreeMap.{is_at}
use Rattle.std.specs.List.{AllByRecursion}
use Rattle.std.specs.List.Sorted.{IsStrictlySortedBy}
use Rattle.std.specs.Map.{keys_of}
use Rattle.std.specs.Option.{is_some}
use Rattle.std.specs.Ordering.{nat_cmp, is_eq}
use Rattle.std.specs.declared.cmp.Ordering.{Ordering}
use Rattle.std.specs.declared.cmp.Ordering.TheVariants.{Less, Equal, Greater}
use Rattle.wrp_flights.specs.declared.departed.Departed.{Departed}
use Rattle.wrp_flights.specs.Ages.{Aged}
use Rattle.wrp_flights.specs.Frames.{at, numbers_from, sent_at}
use Rattle.wrp_flights.proofs.Passing.{same_number}
use Rattle.wrp_flights.proofs.Putting.{equal_numbers}

-- how many of so many numbers, from one on, pass a test
abbrev pub counted : (ℕ → Bool) → (n first : ℕ) → ℕ
counted test n first = count_by test (numbers_from n first)

count_next : (f : ℕ → Bool) (n a : ℕ) → counted f (suc n) a ≡ cond (f a) 1 0 + counted f n (a + 1)
count_next f n a = sum_by-cons (λ x. cond (f x) 1 0) a (numbers_from n (a + 1))

-- the two tests agree on all of them
pub count_alike : (f g : ℕ → Bool) (n a : ℕ) → ((k : ℕ) → a ≤ k → f k ≡ g k) → counted f n a ≡ counted g n a
count_alike f g zero a e = refl
count_alike f g (suc n) a e =
    let here : f a ≡ g a = e a (omega arith) in
    count_next f n a ∙ ap₂ (λ b m. cond b 1 0 + m) here (count_alike f g n (a + 1) (λ k l. e k (omega (arith, l)))) ∙ sym (count_next g n a)

count_none : (f : ℕ → Bool) (n a : ℕ) → ((k : ℕ) → f k ≡ false) → counted f n a ≡ 0
count_none f zero a e = refl
count_none f (suc n) a e = count_next f n a ∙ ap₂ (λ b m. cond b 1 0 + m) (e a) (count_none f n (a + 1) e)

-- they differ at only one number
count_one_more : (f g : ℕ → Bool) (k n a : ℕ) → a ≤ k → k < a + n → f k ≡ true → g k ≡ false → ((q : ℕ) → (q ≡ k → ⊥) → f q ≡ g q) →
    counted f n a ≡ counted g n a + 1
count_one_more f g k zero a l m t e same = absurd (omega (arith, l, m))
count_one_more f g k (suc n) a l m t e same = by_test (λ over. count_one_more f g k n (a + 1) over (omega (arith, m)) t e same) (a == k) refl where
  not_same : (a == k) ≡ false → a ≡ k → ⊥
  not_same is same = let found : (a == k) ≡ true = search (arith, same) in cc

  further : (a ≡ k → ⊥) → a + 1 ≤ k
  further apart = search (arith, l, apart)

  by_test : (a + 1 ≤ k → counted f n (a + 1) ≡ counted g n (a + 1) + 1) → (b : Bool) → (a == k) ≡ b → counted f (suc n) a ≡ counted g (suc n) a + 1
  by_test rest true is =
      let here : a ≡ k = same_number a k (equal_numbers a k ∙ search (arith, is)) in
      let above : counted f n (a + 1) ≡ counted g n (a + 1) = count_alike f g n (a + 1) (λ q less. same q (λ no. omega (arith, less, no, here))) in
      let one : counted f (suc n) a ≡ 1 + counted f n (a + 1) = count_next f n a ∙ ap (λ b. cond b 1 0 + counted f n (a + 1)) (ap f here ∙ t) in
      let none : counted g (suc n) a ≡ 0 + counted g n (a + 1) = count_next g n a ∙ ap (λ b. cond b 1 0 + counted g n (a + 1)) (ap g here ∙ e) in
      omega (arith, above, one, none)
  by_test rest false is =
      let apart : a ≡ k → ⊥ = not_same is in
      let more : counted f n (a + 1) ≡ counted g n (a + 1) + 1 = rest (further apart) in
      let one : counted f (suc n) a ≡ cond (g a) 1 0 + counted f n (a + 1) = count_next f n a ∙ ap (λ b. cond b 1 0 + counted f n (a + 1)) (same a apart) in
      let two : counted g (suc n) a ≡ cond (g a) 1 0 + counted g n (a + 1) = count_next g n a in
      omega (arith, more, one, two)

-- a number below all keys is not one of them
not_less : (r : Ordering) → r ≡ Less → is_eq r ≡ false
not_less Less e = refl
not_less Equal e = absurd cc
not_less Greater e = absurd cc

none_below : (k : ℕ) (es : List (ℕ × Departed)) → AllByRecursion (λ y. nat_cmp k y ≡ Less) (keys_of es) → at k es ≡ None
none_below k [] h = refl
none_below k (e ∷ es) h = ap (λ b. cond b (Some e.1) (at k es)) (not_less (nat_cmp k e.0) h.0) ∙ none_below k es h.1

itself : (k : ℕ) → is_at (nat_cmp k) k ≡ true
itself k = search arith

other_key : (q k : ℕ) (b : Bool) → is_at (nat_cmp q) k ≡ b → (q ≡ k → ⊥) → b ≡ false
other_key q k true e n = absurd (n (same_number q k e))
other_key q k false e n = refl

count_is : (es : List (ℕ × Departed)) (n : ℕ) → IsStrictlySortedBy nat_cmp (keys_of es) → AllByRecursion (λ k. (1 ≤ k) × (k < 1 + n)) (keys_of es) →
    length es ≡ counted (λ k. is_some (at k es)) n 1
unfolding IsStrictlySortedBy
count_is [] n s w = sym (count_none (λ k. is_some (at k [])) n 1 (λ k. refl))
count_is (e ∷ es) n s w =
    let low : length es ≡ counted (λ k. is_some (at k es)) n 1 = count_is es n s.1 w.1 in
    let more : counted (λ k. is_some (at k (e ∷ es))) n 1 ≡ counted (λ k. is_some (at k es)) n 1 + 1 =
    count_one_more (λ k. is_some (at k (e ∷ es))) (λ k. is_some (at k es)) e.0 n 1 w.0.0 w.0.1
    (ap (λ b. is_some (cond b (Some e.1) (at e.0 es))) (itself e.0)) (ap is_some (none_below e.0 es s.0))
    (λ q no. ap (λ b. is_some (cond b (Some e.1) (at q es))) (other_key q e.0 (is_at (nat_cmp q) e.0) refl no)) in
    omega (arith, low, more)

-- the numbers of frames that are kept were given

given : (sent : List ℤ) (k : ℕ) (t : ℤ) → sent_at k sent ≡ Some t → (1 ≤ k) × (k < 1 + length sent)
given sent zero t e = absurd (no e) where
  no : None ≡ Some t → ⊥
  no e = cc
given sent (suc i) t e = let l = slice_get_within sent i t e in (omega arith, omega (arith, l))

some_of : (k : ℕ) (kept : List (ℕ × Departed)) (o : Option Departed) → at k kept ≡ o → is_some o ≡ true → (d : Departed) × (at k kept ≡ Some d)
some_of k kept None e i = absurd cc
some_of k kept (Some d) e i = (d, e)

or_some : (b : Bool) (d : Departed) (o : Option Departed) → is_some o ≡ true → is_some (cond b (Some d) o) ≡ true
or_some true d o i = refl
or_some false d o i = i

within : (n : ℕ) (es : List (ℕ × Departed)) → ((k : ℕ) → is_some (at k es) ≡ true → (1 ≤ k) × (k < 1 + n)) → AllByRecursion (λ k. (1 ≤ k) × (k < 1 + n)) (keys_of es)
within n [] h = tt
within n (e ∷ es) h = (
  h e.0 (ap (λ b. is_some (cond b (Some e.1) (at e.0 es))) (itself e.0)),
  within n es (λ k i. h k (or_some (is_at (nat_cmp k) e.0) e.1 (at k es) i)),
)

pub kept_counted : (h : ℤ) (sent : List ℤ) (kept : List (ℕ × Departed)) (ages : List (ℤ × ℕ)) → Aged h sent kept ages → IsStrictlySortedBy nat_cmp (keys_of kept) →
    length kept ≡ count_by (λ k. is_some (at k kept)) (numbers_from (length sent) 1)
kept_counted h sent kept ages a o = count_is kept (length sent) o (within (length sent) kept (λ k i.
    let it = some_of k kept (at k kept) refl i in given sent k it.0.sent (a.told k it.0 it.1)))
