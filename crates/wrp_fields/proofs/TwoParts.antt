-- The number of some digits, by those before its last 19 and by the last 19.
use Rattle.std.proofs.Common.{◌≡◌, ◌∙◌, ℕ, suc, ◌+◌, ◌-◌, ◌*◌, ◌^◌, ◌≤◌, ◌&&◌, Bool, true, false, if◌then◌else◌, Option, None, Some, List, [], ◌∷◌, ◌++◌, length, fold, refl, sym, ap, ap₂, length-append, arith}
use Rattle.std.specs.Prelude.{option_map, option_and_then}
use Rattle.std.specs.List.{list_all}
use Rattle.std.specs.Char.{is_ascii_digit}
use Rattle.std.proofs.lemmas.Bool.{le-leb}
use Rattle.std.proofs.lemmas.List.Folds.{list_all-append}
use Rattle.std.proofs.lemmas.List.Sums.{fold-append}
use Rattle.wrp_fields.specs.Numbers.{digits_of, value_of}

-- with one digit more
abbrev next : ℕ → ℕ → ℕ
next value digit = value * 10 + (digit - 48)

one_more : (v d p f : ℕ) → (v * 10 + d) * p + f ≡ v * (10 * p) + ((0 * 10 + d) * p + f)
one_more v d p f = grind arith

next_power : (n : ℕ) → 10 * 10 ^ n ≡ 10 ^ suc n
next_power n = omega arith

-- what digits are worth after others
worth_from : (value : ℕ) (digits : List ℕ) → fold next value digits ≡ value * 10 ^ length digits + fold next 0 digits
worth_from value [] = omega arith
worth_from value (digit ∷ digits) =
    worth_from (next value digit) digits
    ∙ one_more value (digit - 48) (10 ^ length digits) (fold next 0 digits)
    ∙ ap₂ (λ p n. value * p + n) (next_power (length digits)) (sym (worth_from (next 0 digit) digits))

-- the number of both parts
abbrev pub of_parts : Option ℕ → Option ℕ → Option ℕ
of_parts high low = option_and_then (λ h. option_map (λ l. h * 10_000_000_000_000_000_000 + l) low) high

worth : (high low : List ℕ) → length low ≡ 19 → value_of (high ++ low) ≡ value_of high * 10_000_000_000_000_000_000 + value_of low
worth high low size =
    fold-append next 0 high low ∙ worth_from (value_of high) low ∙ ap (λ n. value_of high * 10 ^ n + value_of low) size

-- the number of few digits
of_digits : (digits : List ℕ) → 1 ≤ length digits → length digits ≤ 39 → digits_of digits ≡ (if list_all is_ascii_digit digits then Some (value_of digits) else None)
of_digits digits some few = rw (le-leb 1 (length digits) some, le-leb (length digits) 39 few) refl

by_tests : (a b : Bool) (h l : ℕ) → (if a && b then Some (h * 10_000_000_000_000_000_000 + l) else None) ≡ of_parts (if a then Some h else None) (if b then Some l else None)
by_tests true true h l = refl
by_tests true false h l = refl
by_tests false true h l = refl
by_tests false false h l = refl

pub in_parts : (high low : List ℕ) → 1 ≤ length high → length high ≤ 19 → length low ≡ 19 → digits_of (high ++ low) ≡ of_parts (digits_of high) (digits_of low)
in_parts high low some few size =
    let whole : length (high ++ low) ≡ length high + length low = length-append high low in
    of_digits (high ++ low) (omega (arith, whole, some)) (omega (arith, whole, few, size))
    ∙ ap₂ (λ (b : Bool) (n : ℕ). if b then Some n else None) (list_all-append is_ascii_digit high low) (worth high low size)
    ∙ by_tests (list_all is_ascii_digit high) (list_all is_ascii_digit low) (value_of high) (value_of low)
    ∙ sym (ap₂ of_parts (of_digits high some (omega (arith, few))) (of_digits low (omega (arith, size)) (omega (arith, size))))

-- the same for the parts of some digits, as they were read
pub read_in_parts : (digits high low : List ℕ) (h l : Option ℕ) → digits ≡ high ++ low → 1 ≤ length high → length high ≤ 19 → length low ≡ 19
    → h ≡ digits_of high → l ≡ digits_of low → of_parts h l ≡ digits_of digits
read_in_parts digits high low h l is some few size first last =
    ap₂ of_parts first last ∙ sym (in_parts high low some few size) ∙ sym (ap digits_of is)
