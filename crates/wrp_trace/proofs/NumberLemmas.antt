-- Numbers that were printed read back.
use Rattle.std.proofs.Common.{◌≡◌, ℕ, ℤ, pos, negsuc, ◌<◌, ◌≤◌, ◌+◌, ◌-◌, ◌*◌, ◌%◌, ◌^◌, List, [], ◌∷◌, true, false, Some, length, refl, ap, ◌∙◌, arith, rules, lit<}
use Rattle.std.specs.Prelude.{◌==◌}
use Rattle.std.specs.Char.{is_ascii_digit}
use Rattle.std.specs.List.{fold, list_all}
use Rattle.std.specs.Fmt.{decimal, signed_decimal}
use Rattle.std.specs.Str.Parse.{AllDigits, digits_value}
use Rattle.std.proofs.lemmas.Bool.{ne_eqb, eq-eqb, le-leb}
use Rattle.std.proofs.lemmas.Fmt.{decimal_is_IsNumeral_wide, length-decimal-le_wide}
use Rattle.std.proofs.lemmas.Str.Parse.{IsNumeralModel, numerals_by_fold, digit_from_value}
use Rattle.wrp_fields.specs.Numbers.{value_of, number_of, natural_in}
use Rattle.wrp_trace.specs.Times.{time_of}
use Rattle.wrp_course.specs.EventAt.{IsTime}

pub own : IsNumeralModel (λ ds. list_all is_ascii_digit ds ≡ true) value_of
own = numerals_by_fold (λ ds. list_all is_ascii_digit ds ≡ true) (search rules) (λ v ds. fold (λ value digit. value * 10 + (digit - 48)) v ds) (search rules)

number_of_digits : (ds : List ℕ) → AllDigits 10 ds → 1 ≤ length ds → length ds ≤ 39 → number_of ds ≡ Some (pos (digits_value 10 ds))
number_of_digits [] all some few = absurd (omega arith)
number_of_digits (c ∷ cs) all some few =
    let range = digit_from_value c all.0 in
    let plain : (c == 45) ≡ false = ne_eqb c 45 (λ e. omega (arith, range.0)) in
    rw (plain, le-leb 1 (length (c ∷ cs)) some, le-leb (length (c ∷ cs)) 39 few, own.from (c ∷ cs) all, own.same (c ∷ cs) all) refl

pub number_back : (n : ℕ) → n < 10 ^ 39 → number_of (decimal n) ≡ Some (pos n)
number_back n small =
    let wide : n < 10 ^ 64 = omega arith in
    let numeral = decimal_is_IsNumeral_wide n wide in
    number_of_digits (decimal n) numeral.0.1 numeral.0.0 (length-decimal-le_wide 39 n (lit< tt) small wide)
    ∙ ap (λ m. Some (pos m)) numeral.1

pub natural_back : (least greatest n : ℕ) → least ≤ n → n ≤ greatest → n < 10 ^ 39 → natural_in least greatest (decimal n) ≡ Some n
natural_back least greatest n low high small =
    rw (number_back n small, le-leb least n low, le-leb n greatest high) refl

time_whole : (n : ℕ) → n ≤ 2 ^ 92 → n % 1_000 ≡ 0 → time_of (decimal n) ≡ Some (pos n)
time_whole n small whole =
    rw (natural_back 0 4_951_760_157_141_521_099_596_496_896 n (omega arith) (omega arith) (omega arith), eq-eqb (n % 1_000) 0 whole) refl

pub time_back : (time : ℤ) → IsTime time → time_of (signed_decimal time) ≡ Some time
time_back (pos n) is = time_whole n is.greatest is.whole
time_back (negsuc n) is = absurd (omega (arith, is.least))
