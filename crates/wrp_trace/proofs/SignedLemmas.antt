-- Signed numbers that were printed read back.
use Rattle.std.proofs.Common.{◌≡◌, ℕ, ℤ, pos, negsuc, neg_ℤ, suc, ◌<◌, ◌^◌, ◌≤ℤ◌, true, Some, length, refl, ap, arith, lit<}
use Rattle.std.specs.Prelude.{int_le, unsigned_abs, option_map}
use Rattle.std.specs.Fmt.{decimal, signed_decimal}
use Rattle.std.proofs.lemmas.Bool.{le-leb}
use Rattle.std.proofs.lemmas.Int.{ints}
use Rattle.std.proofs.lemmas.Fmt.{decimal_is_IsNumeral_wide, length-decimal-le_wide}
use Rattle.wrp_fields.specs.Numbers.{digits_of, number_of, kept_in, number_in}
use Rattle.wrp_trace.proofs.NumberLemmas.{number_back, own}

digits_back : (n : ℕ) → n < 10 ^ 39 → digits_of (decimal n) ≡ Some n
digits_back n small =
    let wide : n < 10 ^ 64 = omega arith in
    let numeral = decimal_is_IsNumeral_wide n wide in
    let few = length-decimal-le_wide 39 n (lit< tt) small wide in
    rw (le-leb 1 (length (decimal n)) numeral.0.0, le-leb (length (decimal n)) 39 few, own.from (decimal n) numeral.0.1, own.same (decimal n) numeral.0.1)
    (ap (λ m. Some m) numeral.1)

signed_back : (z : ℤ) → unsigned_abs z < 10 ^ 39 → number_of (signed_decimal z) ≡ Some z
signed_back (pos n) small = number_back n small
signed_back (negsuc n) small = ap (option_map (λ m. neg_ℤ (pos m))) (digits_back (suc n) small)

kept : (least greatest z : ℤ) → least ≤ℤ z → z ≤ℤ greatest → kept_in least greatest z ≡ Some z
kept least greatest z low high =
    let from : int_le least z ≡ true = grind (arith, ints) in
    let to : int_le z greatest ≡ true = grind (arith, ints) in
    rw (from, to) refl

-- a number of a range reads back
pub number_in_back : (least greatest z : ℤ) → least ≤ℤ z → z ≤ℤ greatest → unsigned_abs z < 10 ^ 39
    → number_in least greatest (signed_decimal z) ≡ Some z
number_in_back least greatest z low high small = rw (signed_back z small) (kept least greatest z low high)
