-- Counts of zero bits, from what is known of each beat bit.
use Rattle.std.proofs.Common.{◌≡◌, ℕ, ℤ, zero, suc, pos, negsuc, ◌+◌, ◌-◌, ◌*◌, ◌/◌, ◌%◌, ◌^◌, ◌<◌, ◌≤◌, ◌≤ℤ◌, ◌<ℤ◌, arith, lit<, inl, inr, ap, ◌∙◌, sym, subst}
use Rattle.std.proofs.Math.Nat.{pow-suc, pow-le-pow_right}
use Rattle.std.proofs.lemmas.Int.{ints}
use Rattle.std.proofs.lemmas.Bool.{cases_lt}
use Rattle.std.proofs.lemmas.Nat.{leading_length}
use Rattle.std.proofs.lemmas.Nat.Bits.{bit_at-suc, bit_at_lowest, bit_at_above, bit_at-trailing_ones}
use Rattle.std.specs.Int.{bit_at, count_zeros, leading_zeros, trailing_ones, w64}
use Rattle.std.specs.Int.RustNames.{count_ones}
use Rattle.wrp_phase.specs.Beat.{beat_bit}
use lib.Count.{ones, ones_step, ones-le, count_leading_zeros}

-- if each bit below t is 1, t of them are counted
ones-low : (t n : ℕ) → ((j : ℕ) → j < t → bit_at n j ≡ 1) → t ≤ ones n
ones-low zero n each = omega arith
ones-low (suc t) n each =
    let rest : t ≤ ones (n / 2) = ones-low t (n / 2) (λ j h. sym (bit_at-suc n j) ∙ each (suc j) (omega arith)) in
    let lowest : n % 2 ≡ 1 = sym (bit_at_lowest n) ∙ each 0 (omega arith) in
    omega (arith, ones_step n)

-- if each bit from t on is 0, at most t of them are counted
ones-high : (k t n : ℕ) → n < 2 ^ k → ((j : ℕ) → t ≤ j → j < k → bit_at n j ≡ 0) → ones n ≤ t
ones-high zero t n h each = omega (arith, ones-le 0 n h)
ones-high (suc k) zero n h each =
    let half : n / 2 < 2 ^ k = omega (arith, pow-suc 2 k) in
    let rest : ones (n / 2) ≤ 0 = ones-high k zero (n / 2) half (λ j p q. sym (bit_at-suc n j) ∙ each (suc j) (omega arith) (omega arith)) in
    let lowest : n % 2 ≡ 0 = sym (bit_at_lowest n) ∙ each 0 (omega arith) (omega arith) in
    omega (arith, ones_step n)
ones-high (suc k) (suc t) n h each =
    let half : n / 2 < 2 ^ k = omega (arith, pow-suc 2 k) in
    let rest : ones (n / 2) ≤ t = ones-high k t (n / 2) half (λ j p q. sym (bit_at-suc n j) ∙ each (suc j) (omega arith) (omega arith)) in
    omega (arith, ones_step n)

-- a bit is a zero or a one
ones-complement : (k n : ℕ) → n < 2 ^ k → ones n + ones (2 ^ k - 1 - n) ≡ k
ones-complement zero n h = omega (arith, ones-le 0 n h, ones-le 0 (0 - n) (omega arith))
ones-complement (suc k) n h =
    let half : n / 2 < 2 ^ k = omega (arith, pow-suc 2 k) in
    let rest : ones (n / 2) + ones (2 ^ k - 1 - n / 2) ≡ k = ones-complement k (n / 2) half in
    let lowest : (2 ^ suc k - 1 - n) % 2 ≡ 1 - n % 2 = omega (arith, pow-suc 2 k) in
    let others : (2 ^ suc k - 1 - n) / 2 ≡ 2 ^ k - 1 - n / 2 = omega (arith, pow-suc 2 k) in
    omega (arith, ones_step n, ones_step (2 ^ suc k - 1 - n), ap ones others)

-- the zero bits of a sample are the bits that are not ones
zeros-ones : (bits : ℕ) → bits < 2 ^ 64 → count_ones bits + count_zeros w64 bits ≡ 64
zeros-ones bits h = ones-complement 64 bits h

-- the bit at j is the beat bit as far from the other end
bit_at-place : (bits j b : ℕ) → j < 64 → beat_bit bits (63 - j) ≡ b → bit_at bits j ≡ b
bit_at-place bits j b h is =
    let P : ℕ → Type 0 = λ i. bit_at bits i ≡ b in
    let place : 63 - (63 - j) ≡ j = omega arith in
    subst P place is

-- if each beat bit from the place x on is 1, and the first is 0, at most x of them are zeros
pub zeros-most : (bits : ℕ) (x : ℤ) → bits < 2 ^ 64 → beat_bit bits 0 ≡ 0 → ((i : ℕ) → i < 64 → x ≤ℤ pos i → beat_bit bits i ≡ 1) → pos (count_zeros w64 bits) ≤ℤ x
zeros-most bits (negsuc x) h first each =
    let one : beat_bit bits 0 ≡ 1 = each 0 (omega arith) (omega (arith, ints)) in
    absurd (omega arith)
zeros-most bits (pos x) h first each = elim (cases_lt x 64) [
  | inl p ↦
      let low : 64 - x ≤ count_ones bits =
      ones-low (64 - x) bits (λ j q. bit_at-place bits j 1 (omega arith) (each (63 - j) (omega arith) (omega (arith, ints)))) in
      omega (arith, ints, zeros-ones bits h)
  | inr p ↦ omega (arith, ints, zeros-ones bits h)
]

-- if each beat bit before the place x is 0, and the last is 1, at least x of them are zeros
pub zeros-least : (bits : ℕ) (x : ℤ) → bits < 2 ^ 64 → beat_bit bits 63 ≡ 1 → ((i : ℕ) → i < 64 → pos i <ℤ x → beat_bit bits i ≡ 0) → x ≤ℤ pos (count_zeros w64 bits)
zeros-least bits (negsuc x) h last each = omega (arith, ints)
zeros-least bits (pos x) h last each = elim (cases_lt 63 x) [
  | inl p ↦
      let zero_bit : beat_bit bits 63 ≡ 0 = each 63 (omega arith) (omega (arith, ints)) in
      absurd (omega arith)
  | inr p ↦
      let high : count_ones bits ≤ 64 - x =
      ones-high 64 (64 - x) bits h (λ j q r. bit_at-place bits j 0 r (each (63 - j) (omega arith) (omega (arith, ints)))) in
      omega (arith, ints, zeros-ones bits h)
]

-- a sample that is not glitched begins with a zero and ends with a one
pub settled : (bits : ℕ) → bits < 2 ^ 64 → 8 ≤ leading_zeros w64 bits → 8 ≤ trailing_ones w64 bits → (beat_bit bits 0 ≡ 0) × (beat_bit bits 63 ≡ 1)
settled bits h leading trailing =
    let lead : (m : ℕ) × (count_leading_zeros 64 bits + m ≡ 64) × (bits < 2 ^ m) × (2 ^ m ≤ 2 * bits + 1) = leading_length 64 bits h in
    let short : lead.0 ≤ 56 = omega (arith, lead.1) in
    let small : 2 ^ lead.0 ≤ 2 ^ 56 = pow-le-pow_right (lit< tt) short in
    let below : bits + 1 < 2 ^ 64 = omega (arith, lead.2, small) in
    (bit_at_above bits lead.0 63 lead.2 (omega arith), (bit_at-trailing_ones w64 bits below).2 0 (omega arith))
