-- The share of a strand in the two lies between those that the ends of their intervals give.
use Rattle.std.proofs.Common.{ℕ, zero, suc, ℤ, pos, negsuc, ◌+◌, ◌*◌, ◌/◌, ◌<◌, ◌≤◌, ◌≤ℤ◌, ◌+ℤ◌, ◌*ℤ◌, neg_ℤ, arith}
use Rattle.std.proofs.Math.Nat.{mul-le-mul, mul-le-mul_left, mul-le-mul_right, le_of_mul-le-mul_left, mul-div-le}
use Rattle.std.proofs.lemmas.Int.{ints}
use Rattle.wrp_base.specs.Division.{floor_quotient, ceil_quotient}
use Rattle.wrp_base.proofs.DivisionLaws.{floor_quotient-at_most}

share-at_most : (unit least part whole share sum : ℕ) → 0 < whole → whole * share ≤ least * unit → least * sum ≤ part * whole →
    share * sum ≤ unit * part
share-at_most unit least part whole share sum positive h k =
    let a : whole * share * sum ≤ least * unit * sum = mul-le-mul_right sum h in
    let b : unit * (least * sum) ≤ unit * (part * whole) = mul-le-mul_left unit k in
    let c : whole * (share * sum) ≤ whole * (unit * part) = omega arith in
    le_of_mul-le-mul_left c positive

share-at_least : (unit most part whole share sum : ℕ) → 0 < whole → most * unit ≤ whole * share → part * whole ≤ most * sum →
    unit * part ≤ share * sum
share-at_least unit most part whole share sum positive h k =
    let a : most * unit * sum ≤ whole * share * sum = mul-le-mul_right sum h in
    let b : unit * (part * whole) ≤ unit * (most * sum) = mul-le-mul_left unit k in
    let c : whole * (unit * part) ≤ whole * (share * sum) = omega arith in
    le_of_mul-le-mul_left c positive

-- the share of the lower end in it and the other's upper end is at most the true one
pub least-share : (unit : ℕ) (lo other x y : ℤ) → pos 1 ≤ℤ lo → lo ≤ℤ x → pos 0 ≤ℤ y → y ≤ℤ other →
    (floor_quotient (lo *ℤ pos unit) (lo +ℤ other) *ℤ (x +ℤ y)) ≤ℤ (pos unit *ℤ x)
least-share unit (pos a) (pos b) (pos x) (pos y) h k l m =
    let low : a ≤ x = omega (arith, ints) in
    let high : y ≤ b = omega (arith, ints) in
    let cross : a * y ≤ x * b = mul-le-mul low high in
    let told : (a + b) * (a * unit / (a + b)) ≤ a * unit = mul-div-le (a * unit) (a + b) in
    let share : a * unit / (a + b) * (x + y) ≤ unit * x = share-at_most unit a x (a + b) (a * unit / (a + b)) (x + y) (omega (arith, ints)) told (omega arith) in
    omega (arith, ints, share)
least-share unit (negsuc a) b x y h k l m = absurd (omega (arith, ints))
least-share unit (pos a) (negsuc b) x y h k l m = absurd (omega (arith, ints))
least-share unit (pos a) (pos b) (negsuc x) y h k l m = absurd (omega (arith, ints))
least-share unit (pos a) (pos b) (pos x) (negsuc y) h k l m = absurd (omega (arith, ints))

neg-product : (w : ℕ) (q n : ℤ) → (pos w *ℤ q) ≤ℤ neg_ℤ n → n ≤ℤ (pos w *ℤ neg_ℤ q)
neg-product w (pos zero) n h = omega (arith, ints)
neg-product w (pos (suc q)) n h = omega (arith, ints)
neg-product w (negsuc q) n h = omega (arith, ints)

ceil_quotient-at_least : (n : ℤ) (w : ℕ) → 0 < w → n ≤ℤ (pos w *ℤ ceil_quotient n (pos w))
ceil_quotient-at_least n w positive = neg-product w _ n (floor_quotient-at_most (neg_ℤ n) (pos w) (omega (arith, ints)))

greatest-of : (unit a b x y : ℕ) (share : ℤ) → 1 ≤ x → x ≤ a → b ≤ y → pos (a * unit) ≤ℤ (pos (a + b) *ℤ share) → 0 < unit →
    pos (unit * x) ≤ℤ (share *ℤ pos (x + y))
greatest-of unit a b x y (pos share) h k l m positive =
    let cross : x * b ≤ a * y = mul-le-mul k l in
    let told : a * unit ≤ (a + b) * share = omega (arith, ints) in
    let least : unit * x ≤ share * (x + y) = share-at_least unit a x (a + b) share (x + y) (omega arith) told (omega arith) in
    omega (arith, ints, least)
greatest-of unit a b x y (negsuc share) h k l m positive =
    let long : 1 ≤ a = omega arith in
    let some : 1 * 1 ≤ a * unit = mul-le-mul long positive in
    absurd (omega (arith, ints, some))

-- the share of the upper end in it and the other's lower end is at least the true one
pub greatest-share : (unit : ℕ) (hi other x y : ℤ) → 0 < unit → pos 1 ≤ℤ x → x ≤ℤ hi → pos 0 ≤ℤ other → other ≤ℤ y →
    (pos unit *ℤ x) ≤ℤ (ceil_quotient (hi *ℤ pos unit) (hi +ℤ other) *ℤ (x +ℤ y))
greatest-share unit (pos a) (pos b) (pos x) (pos y) positive h k l m =
    greatest-of unit a b x y (ceil_quotient (pos (a * unit)) (pos (a + b))) (omega (arith, ints)) (omega (arith, ints)) (omega (arith, ints))
    (ceil_quotient-at_least (pos (a * unit)) (a + b) (omega (arith, ints))) positive
greatest-share unit (negsuc a) b x y positive h k l m = absurd (omega (arith, ints))
greatest-share unit (pos a) (negsuc b) x y positive h k l m = absurd (omega (arith, ints))
greatest-share unit (pos a) (pos b) (negsuc x) y positive h k l m = absurd (omega (arith, ints))
greatest-share unit (pos a) (pos b) (pos x) (negsuc y) positive h k l m = absurd (omega (arith, ints))
