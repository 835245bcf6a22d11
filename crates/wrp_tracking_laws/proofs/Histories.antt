-- What moves slowly in each step moves slowly between any two moments.
use Rattle.std.proofs.Common.{◌≡◌, ℕ, ℤ, ◌+◌, ◌*◌, ◌<◌, ◌≤◌, ◌-ℤ◌, ◌≤ℤ◌, List, [], ◌∷◌, length, map, ap, sym, subst, ◌∙◌, arith, inl, inr}
use Rattle.std.proofs.lemmas.Int.{ints}
use Rattle.std.proofs.lemmas.List.{length-map}
use Rattle.std.specs.Prelude.{unsigned_abs}
use Rattle.wrp_tracking_laws.specs.History.{Was, EachStep, IsSlow}
use Rattle.wrp_tracking_laws.specs.Moment.{SlowBetween}

-- two slow moves after another
slow_sum : (r : ℕ) (qa qb qc ta tb tc : ℤ) → ta ≤ℤ tb → tb ≤ℤ tc →
    unsigned_abs (qb -ℤ qa) * 1_000_000_000_000 ≤ r * unsigned_abs (tb -ℤ ta) → unsigned_abs (qc -ℤ qb) * 1_000_000_000_000 ≤ r * unsigned_abs (tc -ℤ tb) →
    unsigned_abs (qc -ℤ qa) * 1_000_000_000_000 ≤ r * unsigned_abs (tc -ℤ ta)
slow_sum r qa qb qc ta tb tc first second m1 m2 =
    let whole : unsigned_abs (tb -ℤ ta) + unsigned_abs (tc -ℤ tb) ≡ unsigned_abs (tc -ℤ ta) = omega (arith, ints) in
    let product : r * unsigned_abs (tb -ℤ ta) + r * unsigned_abs (tc -ℤ tb) ≡ r * unsigned_abs (tc -ℤ ta) = omega (arith, ap (λ (n : ℕ). r * n) whole) in
    let far : unsigned_abs (qc -ℤ qa) ≤ unsigned_abs (qb -ℤ qa) + unsigned_abs (qc -ℤ qb) = omega (arith, ints) in
    omega arith

slow_trans : {A : Type 0} (t : A → ℤ) (r : ℕ) (q : A → ℤ) (a b c : A) → IsSlow t r q a b → IsSlow t r q b c → IsSlow t r q a c
slow_trans t r q a b c first second = record {
  order = omega (arith, ints, first.order, second.order);
  limit = slow_sum r (q a) (q b) (q c) (t a) (t b) (t c) first.order second.order first.limit second.limit;
}

slow_refl : {A : Type 0} (t : A → ℤ) (r : ℕ) (q : A → ℤ) (a : A) → IsSlow t r q a a
slow_refl t r q a = record { order = omega (arith, ints); limit = omega (arith, ints) }

-- a moment's number is at most that of the newest
pub was_at_most : {A : Type 0} (k : ℕ) (x : A) (ms : List A) → Was ms k x → k < length ms
was_at_most k x [] none = absurd none
was_at_most k x (m ∷ ms) (inl is) = omega (arith, is.0)
was_at_most k x (m ∷ ms) (inr was) = omega (arith, was_at_most k x ms was)

pub was_before : {A : Type 0} (k : ℕ) (x b : A) (ms : List A) → Was (b ∷ ms) k x → k ≤ length ms
was_before k x b ms was = omega (arith, was_at_most k x (b ∷ ms) was)

-- from the moment of number k to the newest
pub slow_since : {A : Type 0} (t : A → ℤ) (r : ℕ) (q : A → ℤ) (k : ℕ) (x now : A) (ms : List A) → Was (now ∷ ms) k x → EachStep (IsSlow t r q) k (now ∷ ms) → IsSlow t r q x now
slow_since {A} t r q k x now [] (inl is) each = let P : A → Type 0 = λ m. IsSlow t r q m now in subst P (sym is.1) (slow_refl t r q now)
slow_since t r q k x now [] (inr none) each = absurd none
slow_since {A} t r q k x now (b ∷ ms) (inl is) each = let P : A → Type 0 = λ m. IsSlow t r q m now in subst P (sym is.1) (slow_refl t r q now)
slow_since t r q k x now (b ∷ ms) (inr was) each =
    slow_trans t r q x b now (slow_since t r q k x b ms was each.1) (each.0 (was_before k x b ms was))

-- one number is of one moment
pub was_one : {A : Type 0} (k : ℕ) (x y : A) (ms : List A) → Was ms k x → Was ms k y → x ≡ y
was_one k x y [] none _ = absurd none
was_one k x y (m ∷ ms) (inl a) (inl b) = a.1 ∙ sym b.1
was_one k x y (m ∷ ms) (inl a) (inr b) = absurd (omega (arith, a.0, was_at_most k y ms b))
was_one k x y (m ∷ ms) (inr a) (inl b) = absurd (omega (arith, b.0, was_at_most k x ms a))
was_one k x y (m ∷ ms) (inr a) (inr b) = was_one k x y ms a b

-- fewer steps
pub each_since : {A : Type 0} (P : A → A → Type 0) (k j : ℕ) (ms : List A) → k ≤ j → EachStep P k ms → EachStep P j ms
each_since P k j [] less each = tt
each_since P k j (m ∷ []) less each = tt
each_since P k j (m ∷ (b ∷ ms)) less each = (λ h. each.0 (omega arith), each_since P k j (b ∷ ms) less each.1)

-- between any two moments
pub slow_between : {A : Type 0} (t : A → ℤ) (r : ℕ) (q : A → ℤ) (i j : ℕ) (x y : A) (ms : List A) → Was ms i x → Was ms j y → i ≤ j → EachStep (IsSlow t r q) i ms → IsSlow t r q x y
slow_between t r q i j x y [] none b less each = absurd none
slow_between {A} t r q i j x y (now ∷ ms) a (inl b) less each =
    let P : A → Type 0 = λ m. IsSlow t r q x m in
    subst P (sym b.1) (slow_since t r q i x now ms a each)
slow_between t r q i j x y (now ∷ []) (inl a) (inr b) less each = absurd b
slow_between t r q i j x y (now ∷ (m ∷ ms)) (inl a) (inr b) less each = absurd (omega (arith, a.0, was_at_most j y (m ∷ ms) b))
slow_between t r q i j x y (now ∷ []) (inr a) (inr b) less each = absurd b
slow_between t r q i j x y (now ∷ (m ∷ ms)) (inr a) (inr b) less each = slow_between t r q i j x y (m ∷ ms) a b less each.1

-- a history seen through a function
pub was_seen : {A B : Type 0} (f : A → B) (k : ℕ) (x : A) (ms : List A) → Was ms k x → Was (map f ms) k (f x)
was_seen f k x [] none = absurd none
was_seen f k x (m ∷ ms) (inl is) = inl (is.0 ∙ sym (length-map ms f), ap f is.1)
was_seen f k x (m ∷ ms) (inr was) = inr (was_seen f k x ms was)

pub each_seen : {A B : Type 0} (f : A → B) (P : B → B → Type 0) (k : ℕ) (ms : List A) → EachStep (λ a b. P (f a) (f b)) k ms → EachStep P k (map f ms)
each_seen f P k [] each = tt
each_seen f P k (m ∷ []) each = tt
each_seen f P k (m ∷ (b ∷ ms)) each = (λ h. each.0 (omega (arith, length-map ms f)), each_seen f P k (b ∷ ms) each.1)

-- no step begins at the newest moment or later
pub no_steps : {A : Type 0} (P : A → A → Type 0) (k : ℕ) (ms : List A) → length ms ≤ k + 1 → EachStep P k ms
no_steps P k [] few = tt
no_steps P k (m ∷ []) few = tt
no_steps P k (m ∷ (b ∷ ms)) few = (λ h. absurd (omega arith), no_steps P k (b ∷ ms) (omega arith))

pub slow-between : SlowBetween
slow-between rate i j quantity x y history a b order steps = slow_between (λ m. m.time) rate quantity i j x y history a b order steps
