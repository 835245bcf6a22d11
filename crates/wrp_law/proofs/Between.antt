-- A value that lies between two points and is rounded down keeps their distance from a line, and one more.
use Rattle.std.proofs.Common.{◌≡◌, ℕ, ℤ, pos, ◌+◌, ◌*◌, ◌<◌, ◌≤◌, ◌+ℤ◌, ◌-ℤ◌, unsigned_abs, ap, arith}
use Rattle.std.proofs.Math.Nat.{mul-le-mul_left, le_of_mul-le-mul_left}
use Rattle.std.proofs.lemmas.Int.{ints}

-- above the line
pub above : (m t s dy q c e a b : ℕ) → (t + s) * q ≤ t * dy → a ≤ e → b ≤ e → a + m * dy ≡ b + c * (t + s) → 0 < t + s → a + m * q ≤ e + c * t
above m t s dy q c e a b floor a_most b_most even positive =
    le_of_mul-le-mul_left {k = t + s}
    (omega (arith, mul-le-mul_left m floor, mul-le-mul_left s a_most, mul-le-mul_left t b_most, ap (λ n. t * n) even))
    positive

-- below the line
pub below : (m t s dy q c a b : ℕ) → t * dy ≤ (t + s) * q + (t + s) → a + m * dy ≡ b + c * (t + s) → 0 < t + s → c * t ≤ a + m * q + m
below m t s dy q c a b floor even positive =
    le_of_mul-le-mul_left {k = t + s}
    (omega (arith, mul-le-mul_left m floor, ap (λ n. t * n) even))
    positive

-- a number within e of 0, seen from the lower end
pub shifted : (e : ℕ) (z : ℤ) → unsigned_abs z ≤ e → pos (unsigned_abs (z +ℤ pos e)) ≡ z +ℤ pos e
shifted e z near = omega (arith, ints)

pub between : (m e t s dy q c : ℕ) (y x : ℤ) → unsigned_abs (y -ℤ x) ≤ e → unsigned_abs ((y +ℤ pos (m * dy)) -ℤ (x +ℤ pos (c * (t + s)))) ≤ e → (t + s) * q ≤ t * dy → t * dy ≤ (t + s) * q + (t + s) → 0 < t + s → unsigned_abs ((y +ℤ pos (m * q)) -ℤ (x +ℤ pos (c * t))) ≤ e + m
between m e t s dy q c y x start end floor next positive =
    let a : ℕ = unsigned_abs ((y -ℤ x) +ℤ pos e) in
    let b : ℕ = unsigned_abs (((y +ℤ pos (m * dy)) -ℤ (x +ℤ pos (c * (t + s)))) +ℤ pos e) in
    let a_is : pos a ≡ (y -ℤ x) +ℤ pos e = shifted e _ start in
    let b_is : pos b ≡ ((y +ℤ pos (m * dy)) -ℤ (x +ℤ pos (c * (t + s)))) +ℤ pos e = shifted e _ end in
    let a_most : a ≤ e + e = omega (arith, ints) in
    let b_most : b ≤ e + e = omega (arith, ints) in
    let even : a + m * dy ≡ b + c * (t + s) = omega (arith, ints) in
    let up : a + m * q ≤ (e + e) + c * t = above m t s dy q c (e + e) a b floor a_most b_most even positive in
    let down : c * t ≤ a + m * q + m = below m t s dy q c a b next even positive in
    omega (arith, ints)
