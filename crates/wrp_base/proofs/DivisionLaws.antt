-- A quotient rounded down is the greatest whole number that is at most the exact one, and a quotient rounded up is the
-- least that is at least the exact one.
use Rattle.std.proofs.Common.{◌≡◌, ℕ, zero, suc, ℤ, pos, negsuc, neg_ℤ, ◌+◌, ◌*◌, ◌/◌, ◌%◌, ◌<◌, ◌≤ℤ◌, ◌<ℤ◌, ◌+ℤ◌, ◌*ℤ◌, refl, arith}
use Rattle.std.proofs.Math.Nat.{div-add-mod, mod-lt}
use Rattle.std.proofs.lemmas.Int.{ints}
use Rattle.wrp_base.specs.Division.{floor_quotient, ceil_quotient}

-- the quotient rounded down is at most the exact one
pub floor_quotient-at_most : (a b : ℤ) → pos 0 <ℤ b → (b *ℤ floor_quotient a b) ≤ℤ a
floor_quotient-at_most (pos a) (pos b) positive =
    let whole : b * (a / b) + a % b ≡ a = div-add-mod a b in
    omega (arith, ints)
floor_quotient-at_most (negsuc a) (pos b) positive =
    let whole : b * (a / b) + a % b ≡ a = div-add-mod a b in
    let left : a % b < b = mod-lt a (omega (arith, ints)) in
    omega (arith, ints)
floor_quotient-at_most a (negsuc b) positive = absurd positive.lt

-- and the next whole number is above the exact one
pub floor_quotient-next : (a b : ℤ) → pos 0 <ℤ b → a <ℤ (b *ℤ floor_quotient a b +ℤ b)
floor_quotient-next (pos a) (pos b) positive =
    let whole : b * (a / b) + a % b ≡ a = div-add-mod a b in
    let left : a % b < b = mod-lt a (omega (arith, ints)) in
    omega (arith, ints)
floor_quotient-next (negsuc a) (pos b) positive =
    let whole : b * (a / b) + a % b ≡ a = div-add-mod a b in
    omega (arith, ints)
floor_quotient-next a (negsuc b) positive = absurd positive.lt

-- a positive number times one that is not above 0
times_neg : (b q : ℕ) → pos b *ℤ neg_ℤ (pos q) ≡ neg_ℤ (pos (b * q))
times_neg b zero = omega (arith, ints)
times_neg b (suc q) = refl

-- the quotient rounded up is at least the exact one
pub ceil_quotient-at_least : (a b : ℤ) → pos 0 <ℤ b → a ≤ℤ (b *ℤ ceil_quotient a b)
ceil_quotient-at_least (pos zero) (pos b) positive = rw (times_neg b (0 / b)) (omega (arith, ints))
ceil_quotient-at_least (pos (suc a)) (pos b) positive =
    let whole : b * (a / b) + a % b ≡ a = div-add-mod a b in
    let left : a % b < b = mod-lt a (omega (arith, ints)) in
    omega (arith, ints)
ceil_quotient-at_least (negsuc a) (pos b) positive =
    let whole : b * (suc a / b) + suc a % b ≡ suc a = div-add-mod (suc a) b in
    rw (times_neg b (suc a / b)) (omega (arith, ints))
ceil_quotient-at_least a (negsuc b) positive = absurd positive.lt

-- and the next whole number down is below the exact one
pub ceil_quotient-next : (a b : ℤ) → pos 0 <ℤ b → (b *ℤ ceil_quotient a b) <ℤ (a +ℤ b)
ceil_quotient-next (pos zero) (pos b) positive = rw (times_neg b (0 / b)) (omega (arith, ints))
ceil_quotient-next (pos (suc a)) (pos b) positive =
    let whole : b * (a / b) + a % b ≡ a = div-add-mod a b in
    omega (arith, ints)
ceil_quotient-next (negsuc a) (pos b) positive =
    let whole : b * (suc a / b) + suc a % b ≡ suc a = div-add-mod (suc a) b in
    let left : suc a % b < b = mod-lt (suc a) (omega (arith, ints)) in
    rw (times_neg b (suc a / b)) (omega (arith, ints))
ceil_quotient-next a (negsuc b) positive = absurd positive.lt
