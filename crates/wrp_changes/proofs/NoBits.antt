-- Two numbers that have no bit together are 0.
use Rattle.std.proofs.Common.{◌≡◌, ◌∙◌, ap, sym, ℕ, ◌<◌, ◌≤◌, ◌^◌, ℤ, pos, to_z, of_z, bit_or, FitsSigned, arith}
use Rattle.std.proofs.lemmas.Int.{ints, to_z-of_z}
use Rattle.std.proofs.lemmas.Nat.{le_or_l, le_or_r, or_lt}
use Rattle.std.specs.Int.{w64}

no_bit : (n : ℕ) → n < 2 ^ 64 → to_z w64 n ≡ pos 0 → n ≡ 0
no_bit n h e = grind (arith, ints, e, h)

bits_fit : (a : ℤ) → FitsSigned w64 a → of_z w64 a < 2 ^ 64
bits_fit a f = omega (arith, ints, f)

is_zero : (a : ℤ) → FitsSigned w64 a → of_z w64 a ≡ 0 → a ≡ pos 0
is_zero a f e = sym (to_z-of_z w64 a f) ∙ ap (to_z w64) e

pub both_zero : (a b : ℤ) → FitsSigned w64 a → FitsSigned w64 b → to_z w64 (bit_or (of_z w64 a) (of_z w64 b)) ≡ pos 0 → (a ≡ pos 0) × (b ≡ pos 0)
both_zero a b f g e =
    let none : bit_or (of_z w64 a) (of_z w64 b) ≡ 0 = no_bit _ (or_lt 64 _ _ (bits_fit a f) (bits_fit b g)) e in
    let first : of_z w64 a ≤ bit_or (of_z w64 a) (of_z w64 b) = le_or_l _ _ in
    let second : of_z w64 b ≤ bit_or (of_z w64 a) (of_z w64 b) = le_or_r _ _ in
    (is_zero a f (omega (arith, none, first)), is_zero b g (omega (arith, none, second)))
