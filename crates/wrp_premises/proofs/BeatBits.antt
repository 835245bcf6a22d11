-- Beat bits that are all right, as their leading zeros and their trailing ones show.
use Rattle.std.proofs.Common.{◌≡◌, ◌∙◌, refl, ap, sym, ℕ, zero, suc, ◌+◌, ◌-◌, ◌*◌, ◌^◌, ◌<◌, ◌≤◌, ◌==◌, ◌&&◌, ◌||◌, not, nat_le, ℤ, pos, negsuc, ◌+ℤ◌, ◌-ℤ◌, ◌<ℤ◌, ◌≤ℤ◌, unsigned_abs, Bool, true, false, map, None, arith}
use Rattle.std.proofs.lemmas.Int.{ints}
use Rattle.std.proofs.lemmas.Nat.{leading_length}
use Rattle.std.proofs.lemmas.Nat.Bits.{bit_at_above, bit_at-trailing_ones}
use Rattle.std.specs.Int.{leading_zeros, trailing_ones, w64}
use Rattle.std.specs.Int.Signed.{le_z, lt_z}
use Rattle.wrp_phase.specs.Beat.{beat_bit}
use Rattle.wrp_course.specs.Checks.{Check, told_of}
use Rattle.wrp_course.specs.Premises.{bit_check, is_wrong}
use Rattle.wrp_course.specs.Setting.{from_on}
use Rattle.wrp_course.proofs.Told.{holds_first}
use lib.Count.{count_leading_zeros}

-- as many bits are 0 at the front as there are leading zeros
pub zeros_before : (bits : ℕ) → bits < 2 ^ 64 → (i : ℕ) → i < leading_zeros w64 bits → beat_bit bits i ≡ 0
zeros_before bits h i l =
    let lead : (m : ℕ) × (count_leading_zeros 64 bits + m ≡ 64) × (bits < 2 ^ m) × (2 ^ m ≤ 2 * bits + 1) = leading_length 64 bits h in
    let inside : lead.0 ≤ 63 - i = omega (arith, lead.1, l) in
    bit_at_above bits lead.0 (63 - i) lead.2 inside

-- and as many are 1 at the end as there are trailing ones
pub ones_after : (bits : ℕ) → bits + 1 < 2 ^ 64 → (i : ℕ) → i < 64 → 64 ≤ i + trailing_ones w64 bits → beat_bit bits i ≡ 1
ones_after bits h i l t =
    let inside : 63 - i < trailing_ones w64 bits = omega (arith, l, t) in
    (bit_at-trailing_ones w64 bits h).2 (63 - i) inside

-- what the code compares, with sizes of signed numbers
pub before_first : (first : ℤ) (size leading i : ℕ) → size ≡ unsigned_abs first → nat_le size leading ≡ true → pos i <ℤ first → i < leading
before_first (pos n) size leading i e h l = grind (arith, ints)
before_first (negsuc n) size leading i e h l = absurd (omega (arith, ints, l))

pub from_sure : (sure : ℤ) (size trailing i : ℕ) → size ≡ unsigned_abs sure → le_z (pos 0) sure ≡ true → nat_le 64 (size + trailing) ≡ true → sure ≤ℤ pos i → 64 ≤ i + trailing
from_sure (pos n) size trailing i e g h l = grind (arith, ints)
from_sure (negsuc n) size trailing i e g h l = absurd (grind (arith, ints))

-- A bit that is 0 if it may not be 1, and 1 if it may not be 0, is not wrong

is_below : (x y : ℤ) → lt_z x y ≡ true → x <ℤ y
is_below x y h = grind (arith, ints)

is_at_most : (x y : ℤ) → le_z x y ≡ true → x ≤ℤ y
is_at_most x y h = grind (arith, ints)

not_wrong : (a b : Bool) (x : ℕ) → (a ≡ true → x ≡ 0) → (b ≡ true → x ≡ 1) → ((a && not (x == 0)) || (b && not (x == 1))) ≡ false
not_wrong false false x p q = refl
not_wrong true false x p q = ap (λ n. (true && not (n == 0)) || (false && not (n == 1))) (p refl)
not_wrong false true x p q = ap (λ n. (false && not (n == 0)) || (true && not (n == 1))) (q refl)
not_wrong true true x p q = absurd (omega (arith, p refl, q refl))

pub bit_right : (steps : ℤ) (beat bits : ℕ) → ((i : ℕ) → i < 64 → pos i <ℤ (steps -ℤ pos beat) → beat_bit bits i ≡ 0) →
    ((i : ℕ) → i < 64 → (steps +ℤ pos beat) ≤ℤ pos i → beat_bit bits i ≡ 1) → (i : ℕ) → i < 64 → is_wrong steps beat bits i ≡ false
bit_right steps beat bits zeros ones i h =
    not_wrong (lt_z (pos i) (steps -ℤ pos beat)) (le_z (steps +ℤ pos beat) (pos i)) (beat_bit bits i) (λ e. zeros i h (is_below _ _ e)) (λ e. ones i h (is_at_most _ _ e))

-- Checks of which none fails

none_fails : (f : ℕ → Check) (k i : ℕ) → ((j : ℕ) → j < i + k → (f j).fails ≡ false) → told_of (map f (from_on k i)) ≡ None
none_fails f zero i h = refl
none_fails f (suc k) i h =
    sym (holds_first (f i) (map f (from_on k (i + 1))) (h i (omega arith))) ∙ none_fails f k (i + 1) (λ j l. h j (omega (arith, l)))

pub none_told : (steps : ℤ) (beat bits : ℕ) → ((i : ℕ) → i < 64 → is_wrong steps beat bits i ≡ false) →
    None ≡ told_of (map (bit_check steps beat bits) (from_on 64 0))
none_told steps beat bits h = sym (none_fails (bit_check steps beat bits) 64 0 h)
