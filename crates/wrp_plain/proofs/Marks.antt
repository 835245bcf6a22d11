-- Ticks and commands change what the measurements mean.
use Rattle.std.proofs.Common.{◌≡◌, ℕ, zero, suc, ℤ, ◌+◌, ◌-◌, ◌≤◌, ◌+ℤ◌, List, [], ◌∷◌, map, take, refl, ap, ap₂, ◌∙◌, arith}
use Rattle.std.proofs.lemmas.Int.{ints}
use Rattle.wrp_plain.specs.declared.settings.PlainSet.{PlainSet}
use Rattle.wrp_plain.specs.declared.kept.Kept.{Kept}
use Rattle.wrp_plain.specs.Measurement.{est_of, base_of, round_of}
use Rattle.wrp_plain.specs.Call.{Call, CallMeasured, CallTick, CallCommand, Standing, marks_before}
use Rattle.wrp_plain.specs.StandsFor.{mark_of, marks_from, AreKept}

-- a mark one tick later, and after a command
abbrev pub later : Standing → Standing
later mark = record mark { ticks = mark.ticks + 1 }

abbrev pub moved_by : ℤ → Standing → Standing
moved_by by mark = record mark { est = mark.est +ℤ by }

mark : ℕ → ℤ → ℤ → Standing
mark ticks base est = record { est = est; base = base; ticks = ticks }

unfoldable pub ticked : ℤ → ℤ → ℕ → Standing
ticked est base ticks = record { est = est; base = base; ticks = ticks }

assoc : (a b c : ℤ) → a +ℤ (b +ℤ c) ≡ (a +ℤ b) +ℤ c
assoc a b c = omega (arith, ints)

swapped : (a b c : ℤ) → (a +ℤ b) +ℤ c ≡ (a +ℤ c) +ℤ b
swapped a b c = omega (arith, ints)

pub marks_before-tick : (set : PlainSet) (moved : ℤ) (k : ℕ) (calls : List Call) →
    marks_before set moved (k + 1) calls ≡ map later (marks_before set moved k calls)
marks_before-tick set moved k [] = refl
marks_before-tick set moved k (CallMeasured t1 t2 t3 t4 ∷ calls) = ap (λ (ms : List Standing). later (record { est = est_of t1 t2 t3 t4 +ℤ moved; base = base_of set (round_of t1 t2 t3 t4); ticks = k }) ∷ ms) (marks_before-tick set moved k calls)
marks_before-tick set moved k (CallTick ∷ calls) = marks_before-tick set moved (k + 1) calls
marks_before-tick set moved k (CallCommand by ∷ calls) = marks_before-tick set (moved +ℤ by) k calls

pub marks_before-moved : (set : PlainSet) (moved by : ℤ) (k : ℕ) (calls : List Call) →
    marks_before set (moved +ℤ by) k calls ≡ map (moved_by by) (marks_before set moved k calls)
unfolding mark
marks_before-moved set moved by k [] = refl
marks_before-moved set moved by k (CallMeasured t1 t2 t3 t4 ∷ calls) =
    ap₂ (λ (m : Standing) (ms : List Standing). m ∷ ms)
    (ap (mark k (base_of set (round_of t1 t2 t3 t4))) (assoc (est_of t1 t2 t3 t4) moved by))
    (marks_before-moved set moved by k calls)
marks_before-moved set moved by k (CallTick ∷ calls) = marks_before-moved set moved by (k + 1) calls
marks_before-moved set moved by k (CallCommand n ∷ calls) =
    ap (λ (m : ℤ). marks_before set m k calls) (swapped moved by n) ∙ marks_before-moved set (moved +ℤ n) by k calls

pub marks_from-tick : (moved : ℤ) (k : ℕ) (items : List Kept) → AreKept k items →
    marks_from moved (k + 1) items ≡ map later (marks_from moved k items)
unfolding ticked
marks_from-tick moved k [] are = refl
marks_from-tick moved k (kept ∷ rest) (is, are) =
    let passed : kept.ticks ≤ k = is.ticks_passed in
    let one : k + 1 - kept.ticks ≡ k - kept.ticks + 1 = omega arith in
    ap₂ (λ (m : Standing) (ms : List Standing). m ∷ ms) (ap (ticked (kept.est +ℤ moved) kept.base) one)
    (marks_from-tick (moved +ℤ kept.before) k rest are)

pub marks_from-moved : (moved by : ℤ) (k : ℕ) (items : List Kept) →
    marks_from (moved +ℤ by) k items ≡ map (moved_by by) (marks_from moved k items)
unfolding mark
marks_from-moved moved by k [] = refl
marks_from-moved moved by k (kept ∷ rest) =
    ap₂ (λ (m : Standing) (ms : List Standing). m ∷ ms) (ap (mark (k - kept.ticks) kept.base) (assoc kept.est moved by))
    (ap (λ (m : ℤ). marks_from m k rest) (swapped moved by kept.before) ∙ marks_from-moved (moved +ℤ kept.before) by k rest)

pub marks_from-take : (moved : ℤ) (k n : ℕ) (items : List Kept) → marks_from moved k (take n items) ≡ take n (marks_from moved k items)
marks_from-take moved k zero items = refl
marks_from-take moved k (suc n) [] = refl
marks_from-take moved k (suc n) (kept ∷ rest) = ap (λ (ms : List Standing). mark_of moved k kept ∷ ms) (marks_from-take (moved +ℤ kept.before) k n rest)

-- of the last ones with one more, only the last ones matter
take-take : {X : Type 0} (n : ℕ) (xs : List X) → take n (take (suc n) xs) ≡ take n xs
take-take zero xs = refl
take-take (suc n) [] = refl
take-take (suc n) (x ∷ xs) = ap (λ ys. x ∷ ys) (take-take n xs)

pub take-cons : {X : Type 0} (n : ℕ) (x : X) (xs : List X) → take n (x ∷ take n xs) ≡ take n (x ∷ xs)
take-cons zero x xs = refl
take-cons (suc n) x xs = ap (λ ys. x ∷ ys) (take-take n xs)

pub AreKept-later : (k : ℕ) (items : List Kept) → AreKept k items → AreKept (k + 1) items
AreKept-later k [] are = tt
AreKept-later k (kept ∷ rest) (is, are) =
    let passed : kept.ticks ≤ k = is.ticks_passed in
    (record { est = is.est; base = is.base; ticks_passed = omega arith; before = is.before }, AreKept-later k rest are)

pub AreKept-take : (k n : ℕ) (items : List Kept) → AreKept k items → AreKept k (take n items)
AreKept-take k zero items are = tt
AreKept-take k (suc n) [] are = tt
AreKept-take k (suc n) (kept ∷ rest) (is, are) = (is, AreKept-take k n rest are)
