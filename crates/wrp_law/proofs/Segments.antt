-- The value of a segment: where it lies, that it does not fall, and how near it is to the exact fraction.
use Rattle.std.proofs.Common.{◌≡◌, ℕ, ℤ, pos, negsuc, ◌^◌, ◌+◌, ◌-◌, ◌*◌, ◌/◌, ◌<◌, ◌≤◌, ◌≤ℤ◌, ◌<ℤ◌, ◌+ℤ◌, ◌-ℤ◌, ◌*ℤ◌, unsigned_abs, refl, ap, subst, ◌∙◌, arith}
use Rattle.std.proofs.Math.Nat.{mul-le-mul_right, le_of_mul-le-mul_left, mul-div-le, lt-div-mul-add}
use Rattle.std.proofs.Math.IntN.{*ℤ_comm}
use Rattle.std.proofs.lemmas.Nat.{le-div}
use Rattle.std.proofs.lemmas.Int.{ints}
use borrow.Author.Differences.{up, down}
use Rattle.wrp_base.specs.Division.{floor_quotient}
use Rattle.wrp_base.proofs.Integers.{fraction_is_its_size}
use Rattle.wrp_law.specs.Law.{IsNear}
use Rattle.wrp_law.specs.Table.{segment_value}
use Rattle.wrp_law.specs.declared.delay.LawKind.TheVariants.{Linear}
use Rattle.wrp_law.proofs.Between.{between}

-- a segment and a place on it, given in steps of natural numbers
record Steps (x1 y1 x2 y2 x : ℤ) : Type 0 where
  t : ℕ
  s : ℕ
  dy : ℕ
  x_is : x ≡ x1 +ℤ pos t
  x2_is : x2 ≡ x1 +ℤ pos (t + s)
  y2_is : y2 ≡ y1 +ℤ pos dy
  positive : 0 < t + s

unfoldable steps : (x1 y1 x2 y2 x : ℤ) → x1 <ℤ x2 → y1 ≤ℤ y2 → x1 ≤ℤ x → x ≤ℤ x2 → Steps x1 y1 x2 y2 x
steps x1 y1 x2 y2 x rises stays after before = record {
  t = unsigned_abs (x -ℤ x1);
  s = unsigned_abs (x2 -ℤ x);
  dy = unsigned_abs (y2 -ℤ y1);
  x_is = omega (arith, ints);
  x2_is = omega (arith, ints);
  y2_is = omega (arith, ints);
  positive = omega (arith, ints);
}

value_is : (x1 y1 x2 y2 x : ℤ) (p : Steps x1 y1 x2 y2 x) → segment_value (x1, y1) (x2, y2) x ≡ y1 +ℤ pos (p.t * p.dy / (p.t + p.s))
value_is x1 y1 x2 y2 x p =
    let x_is : x ≡ x1 +ℤ pos p.t = p.x_is in
    let x2_is : x2 ≡ x1 +ℤ pos (p.t + p.s) = p.x2_is in
    let y2_is : y2 ≡ y1 +ℤ pos p.dy = p.y2_is in
    let along : x -ℤ x1 ≡ pos p.t = omega (arith, ints) in
    let whole : x2 -ℤ x1 ≡ pos (p.t + p.s) = omega (arith, ints) in
    let rise : y2 -ℤ y1 ≡ pos p.dy = omega (arith, ints) in
    rw along (rw whole (rw rise refl))

whole_is : (t d : ℕ) → t ≤ d → t + (d - t) ≡ d
whole_is t d h = omega arith

-- it is at most the whole rise
quotient-le : (t s dy : ℕ) → 0 < t + s → t * dy / (t + s) ≤ dy
quotient-le t s dy positive =
    let floor : (t + s) * (t * dy / (t + s)) ≤ t * dy = mul-div-le (t * dy) (t + s) in
    le_of_mul-le-mul_left {k = t + s} (omega arith) positive

-- the quotient of a place on a segment is no more than the rise
pub rise-most : (along whole rise : ℤ) → pos 0 ≤ℤ along → along ≤ℤ whole → pos 0 <ℤ whole → pos 0 ≤ℤ rise → unsigned_abs (floor_quotient (along *ℤ rise) whole) ≤ unsigned_abs rise
rise-most (pos t) (pos d) (pos dy) after before positive stays =
    subst (λ n. t * dy / n ≤ dy) (whole_is t d (omega (arith, ints))) (quotient-le t (d - t) dy (omega (arith, ints)))
rise-most (negsuc t) whole rise after before positive stays = omega (arith, ints)
rise-most (pos t) (negsuc d) rise after before positive stays = omega (arith, ints)
rise-most (pos t) (pos d) (negsuc dy) after before positive stays = omega (arith, ints)

-- the value is at least the first point's
from_by : (x1 y1 x2 y2 x : ℤ) (p : Steps x1 y1 x2 y2 x) → y1 ≤ℤ segment_value (x1, y1) (x2, y2) x
from_by x1 y1 x2 y2 x p = rw (value_is x1 y1 x2 y2 x p) (omega (arith, ints))

pub segment_value-from : (x1 y1 x2 y2 x : ℤ) → x1 <ℤ x2 → y1 ≤ℤ y2 → x1 ≤ℤ x → x ≤ℤ x2 → y1 ≤ℤ segment_value (x1, y1) (x2, y2) x
segment_value-from x1 y1 x2 y2 x rises stays after before = from_by x1 y1 x2 y2 x (steps x1 y1 x2 y2 x rises stays after before)

-- and at most the second point's
to_by : (x1 y1 x2 y2 x : ℤ) (p : Steps x1 y1 x2 y2 x) → segment_value (x1, y1) (x2, y2) x ≤ℤ y2
to_by x1 y1 x2 y2 x p =
    let most : p.t * p.dy / (p.t + p.s) ≤ p.dy = quotient-le p.t p.s p.dy p.positive in
    let y2_is : y2 ≡ y1 +ℤ pos p.dy = p.y2_is in
    rw (value_is x1 y1 x2 y2 x p) (omega (arith, ints))

pub segment_value-to : (x1 y1 x2 y2 x : ℤ) → x1 <ℤ x2 → y1 ≤ℤ y2 → x1 ≤ℤ x → x ≤ℤ x2 → segment_value (x1, y1) (x2, y2) x ≤ℤ y2
segment_value-to x1 y1 x2 y2 x rises stays after before = to_by x1 y1 x2 y2 x (steps x1 y1 x2 y2 x rises stays after before)

-- it does not fall
quotients : (t s dy t' s' dy' : ℕ) → t ≤ t' → t + s ≡ t' + s' → dy ≡ dy' → 0 < t' + s' → t * dy / (t + s) ≤ t' * dy' / (t' + s')
quotients t s dy t' s' dy' later even same positive =
    let floor : (t + s) * (t * dy / (t + s)) ≤ t * dy = mul-div-le (t * dy) (t + s) in
    let whole : (t + s) * (t * dy / (t + s)) ≡ (t' + s') * (t * dy / (t + s)) = ap (λ n. n * (t * dy / (t + s))) even in
    let more : t * dy ≤ t' * dy = mul-le-mul_right dy later in
    let rise : t' * dy ≡ t' * dy' = ap (λ n. t' * n) same in
    le-div (t * dy / (t + s)) (t' * dy') (t' + s') positive (omega arith)

rises_by : (x1 y1 x2 y2 x z : ℤ) (p : Steps x1 y1 x2 y2 x) (q : Steps x1 y1 x2 y2 z) → x ≤ℤ z → segment_value (x1, y1) (x2, y2) x ≤ℤ segment_value (x1, y1) (x2, y2) z
rises_by x1 y1 x2 y2 x z p q later =
    let x_is : x ≡ x1 +ℤ pos p.t = p.x_is in
    let z_is : z ≡ x1 +ℤ pos q.t = q.x_is in
    let x2_is : x2 ≡ x1 +ℤ pos (p.t + p.s) = p.x2_is in
    let x2_is' : x2 ≡ x1 +ℤ pos (q.t + q.s) = q.x2_is in
    let y2_is : y2 ≡ y1 +ℤ pos p.dy = p.y2_is in
    let y2_is' : y2 ≡ y1 +ℤ pos q.dy = q.y2_is in
    let most : p.t * p.dy / (p.t + p.s) ≤ q.t * q.dy / (q.t + q.s) =
    quotients p.t p.s p.dy q.t q.s q.dy (omega (arith, ints)) (omega (arith, ints)) (omega (arith, ints)) q.positive in
    rw (value_is x1 y1 x2 y2 x p) (rw (value_is x1 y1 x2 y2 z q) (omega (arith, ints)))

pub segment_value-rises : (x1 y1 x2 y2 x z : ℤ) → x1 <ℤ x2 → y1 ≤ℤ y2 → x1 ≤ℤ x → x ≤ℤ z → z ≤ℤ x2 → segment_value (x1, y1) (x2, y2) x ≤ℤ segment_value (x1, y1) (x2, y2) z
segment_value-rises x1 y1 x2 y2 x z rises stays after later before =
    rises_by x1 y1 x2 y2 x z
    (steps x1 y1 x2 y2 x rises stays after (omega (arith, ints)))
    (steps x1 y1 x2 y2 z rises stays (omega (arith, ints)) before)
    later

-- a product grows with its factor
pub grown : (k : ℕ) (z : ℤ) (n : ℕ) → pos k *ℤ (z +ℤ pos n) ≡ pos k *ℤ z +ℤ pos (k * n)
grown k z n =
    let even : up (z +ℤ pos n) + down z ≡ up z + n + down (z +ℤ pos n) = omega (arith, ints) in
    omega (arith, ints, ap (λ m. k * m) even)

pub grown_first : (z : ℤ) (n k : ℕ) → (z +ℤ pos n) *ℤ pos k ≡ z *ℤ pos k +ℤ pos (k * n)
grown_first z n k = *ℤ_comm (z +ℤ pos n) (pos k) ∙ grown k z n ∙ ap (λ p. p +ℤ pos (k * n)) (*ℤ_comm (pos k) z)

-- it is nearer than the points and one more: c is the fraction's numerator, m its denominator
near_by : (m e c : ℕ) (x1 y1 x2 y2 x : ℤ) (p : Steps x1 y1 x2 y2 x) → unsigned_abs ((pos m *ℤ y1) -ℤ (x1 *ℤ pos c)) ≤ e → unsigned_abs ((pos m *ℤ y2) -ℤ (x2 *ℤ pos c)) ≤ e → unsigned_abs ((pos m *ℤ segment_value (x1, y1) (x2, y2) x) -ℤ (x *ℤ pos c)) ≤ e + m
near_by m e c x1 y1 x2 y2 x p start end =
    let y2_is : pos m *ℤ y2 ≡ pos m *ℤ y1 +ℤ pos (m * p.dy) = ap (λ y. pos m *ℤ y) p.y2_is ∙ grown m y1 p.dy in
    let x2_is : x2 *ℤ pos c ≡ x1 *ℤ pos c +ℤ pos (c * (p.t + p.s)) = ap (λ y. y *ℤ pos c) p.x2_is ∙ grown_first x1 (p.t + p.s) c in
    let x_is : x *ℤ pos c ≡ x1 *ℤ pos c +ℤ pos (c * p.t) = ap (λ y. y *ℤ pos c) p.x_is ∙ grown_first x1 p.t c in
    let y_is : pos m *ℤ segment_value (x1, y1) (x2, y2) x ≡ pos m *ℤ y1 +ℤ pos (m * (p.t * p.dy / (p.t + p.s))) =
    ap (λ y. pos m *ℤ y) (value_is x1 y1 x2 y2 x p) ∙ grown m y1 (p.t * p.dy / (p.t + p.s)) in
    let second : unsigned_abs ((pos m *ℤ y1 +ℤ pos (m * p.dy)) -ℤ (x1 *ℤ pos c +ℤ pos (c * (p.t + p.s)))) ≤ e = omega (arith, ints) in
    let floor : (p.t + p.s) * (p.t * p.dy / (p.t + p.s)) ≤ p.t * p.dy = mul-div-le (p.t * p.dy) (p.t + p.s) in
    let next : p.t * p.dy < p.t * p.dy / (p.t + p.s) * (p.t + p.s) + (p.t + p.s) = lt-div-mul-add p.positive in
    let both : unsigned_abs ((pos m *ℤ y1 +ℤ pos (m * (p.t * p.dy / (p.t + p.s)))) -ℤ (x1 *ℤ pos c +ℤ pos (c * p.t))) ≤ e + m =
    between m e p.t p.s p.dy (p.t * p.dy / (p.t + p.s)) c (pos m *ℤ y1) (x1 *ℤ pos c) start second floor (omega arith) p.positive in
    rw y_is (rw x_is both)

near_at : (m e f c : ℕ) (part : ℤ) (x1 y1 x2 y2 x : ℤ) → part ≡ pos c → f ≡ e + m → Steps x1 y1 x2 y2 x → unsigned_abs ((pos m *ℤ y1) -ℤ (x1 *ℤ part)) ≤ e → unsigned_abs ((pos m *ℤ y2) -ℤ (x2 *ℤ part)) ≤ e → unsigned_abs ((pos m *ℤ segment_value (x1, y1) (x2, y2) x) -ℤ (x *ℤ part)) ≤ f
near_at m e f c part x1 y1 x2 y2 x part_is f_is p start end =
    rw f_is (rw part_is (near_by m e c x1 y1 x2 y2 x p
    (subst (λ k. unsigned_abs ((pos m *ℤ y1) -ℤ (x1 *ℤ k)) ≤ e) part_is start)
    (subst (λ k. unsigned_abs ((pos m *ℤ y2) -ℤ (x2 *ℤ k)) ≤ e) part_is end)))

pub segment_value-near : (kappa : ℤ) (err : ℕ) (x1 y1 x2 y2 x : ℤ) → unsigned_abs kappa ≤ 2 ^ 38 → x1 <ℤ x2 → y1 ≤ℤ y2 → x1 ≤ℤ x → x ≤ℤ x2 → IsNear (Linear kappa) err x1 y1 → IsNear (Linear kappa) err x2 y2 → IsNear (Linear kappa) (err + 1) x (segment_value (x1, y1) (x2, y2) x)
segment_value-near kappa err x1 y1 x2 y2 x size rises stays after before start end =
    near_at (2 ^ 40) (2 ^ 40 * err) (2 ^ 40 * (err + 1)) (unsigned_abs (pos (2 ^ 39) +ℤ kappa)) (pos (2 ^ 39) +ℤ kappa) x1 y1 x2 y2 x
    (fraction_is_its_size kappa size) (omega arith) (steps x1 y1 x2 y2 x rises stays after before) start end
