-- Small laws of whole numbers.
use Rattle.std.proofs.Common.{arith, pos, unsigned_abs, ℕ, ℤ, ◌+ℤ◌, ◌^◌, ◌≡◌, ◌≤ℤ◌, ◌≤◌}
use Rattle.std.proofs.lemmas.Int.{ints}

pub int_le_trans : (a b c : ℤ) → a ≤ℤ b → b ≤ℤ c → a ≤ℤ c
int_le_trans a b c p q = omega (arith, ints)

pub int_le_self : (t : ℤ) → t ≤ℤ t
int_le_self t = omega (arith, ints)

pub pos_le : (a b : ℕ) → pos a ≤ℤ pos b → a ≤ b
pos_le a b h = omega (arith, ints)

pub fraction_is_its_size : (kappa : ℤ) → unsigned_abs kappa ≤ 2 ^ 38 → pos (2 ^ 39) +ℤ kappa ≡ pos (unsigned_abs (pos (2 ^ 39) +ℤ kappa))
fraction_is_its_size kappa size = omega (arith, ints)

pub le_plus : (a : ℤ) (x : ℕ) → a ≤ℤ (a +ℤ pos x)
le_plus a x = omega (arith, ints)

pub pos_of_abs : (v : ℤ) → pos 0 ≤ℤ v → pos (unsigned_abs v) ≡ v
pos_of_abs v h = omega (arith, ints, h)

pub int_plus_zero : (a : ℤ) → a +ℤ pos 0 ≡ a
int_plus_zero a = omega (arith, ints)
