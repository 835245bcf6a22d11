-- The parts of a field, found again.
use Rattle.std.proofs.Common.{◌≡◌, ◌≢◌, ◌∙◌, ◌⊎◌, inl, inr, ℕ, ℤ, pos, negsuc, suc, ◌+◌, ◌<◌, ◌≤◌, ◌^◌, ◌&&◌, ◌||◌, not, List, [], ◌∷◌, ◌++◌, Bool, true, length, drop, refl, sym, ap, arith}
use Rattle.std.specs.Prelude.{◌==◌, nat_le, unsigned_abs}
use Rattle.std.specs.List.{list_all, position_or_len}
use Rattle.std.specs.Fmt.{decimal, signed_decimal}
use Rattle.std.specs.Str.Parse.{AllDigits}
use Rattle.std.proofs.lemmas.Bool.{ne_eqb, eq-eqb, leb-true, eqb-true, and_parts, and_from, or_cases, not-true}
use Rattle.std.proofs.lemmas.Fmt.{decimal_is_IsNumeral_wide}
use Rattle.std.proofs.lemmas.List.{take_at, drop_at, append_assoc}
use Rattle.std.proofs.lemmas.List.Folds.{list_all-append}
use Rattle.std.proofs.lemmas.Str.Parse.{digit_from_value}
use Rattle.wrp_caldb.specs.Name.{is_letter, is_name_octet, is_name}
use Rattle.wrp_trace.specs.EventFields.{before, behind}
use Rattle.wrp_trace.proofs.Texts.{is_text_octet, IsText, text_octet}

-- an octet of a part: it may appear in a field, and is not `/`, `:` or `=`
abbrev pub is_part_octet : ℕ → Bool
is_part_octet octet =
    not (octet == 47) && (not (octet == 58) && (not (octet == 61) && is_text_octet octet))

-- a part of a field
abbrev pub IsPart : List ℕ → Type 0
IsPart text = list_all is_part_octet text ≡ true

part_octet : (c : ℕ) → 45 ≤ c → c < 128 → c ≢ 47 → c ≢ 58 → c ≢ 61 → is_part_octet c ≡ true
part_octet c low high a b d = rw (ne_eqb c 47 a, ne_eqb c 58 b, ne_eqb c 61 d) (text_octet c low high)

digits_part : (ds : List ℕ) → AllDigits 10 ds → IsPart ds
digits_part [] d = refl
digits_part (c ∷ cs) d =
    let range = digit_from_value c d.0 in
    and_from (is_part_octet c) (list_all is_part_octet cs)
    (part_octet c (omega (arith, range.0)) (omega (arith, range.1)) (λ e. omega (arith, range.0, e)) (λ e. omega (arith, range.1, e)) (λ e. omega (arith, range.1, e)))
    (digits_part cs d.1)

pub decimal_part : (n : ℕ) → n < 10 ^ 64 → IsPart (decimal n)
decimal_part n small = digits_part (decimal n) (decimal_is_IsNumeral_wide n small).0.1

pub signed_part : (z : ℤ) → unsigned_abs z < 10 ^ 64 → IsPart (signed_decimal z)
signed_part (pos n) small = decimal_part n small
signed_part (negsuc n) small = decimal_part (suc n) small

letter_part : (c : ℕ) → is_letter c ≡ true → is_part_octet c ≡ true
letter_part c is =
    let range = and_parts (nat_le 97 c) (nat_le c 122) is in
    let low : 97 ≤ c = leb-true 97 c range.0 in
    let high : c ≤ 122 = leb-true c 122 range.1 in
    part_octet c (omega arith) (omega arith) (λ e. omega arith) (λ e. omega arith) (λ e. omega arith)

digit_or_line : (c : ℕ) → ((nat_le 48 c && nat_le c 57) ≡ true) ⊎ ((c == 95) ≡ true) → is_part_octet c ≡ true
digit_or_line c (inl is) =
    let range = and_parts (nat_le 48 c) (nat_le c 57) is in
    let low : 48 ≤ c = leb-true 48 c range.0 in
    let high : c ≤ 57 = leb-true c 57 range.1 in
    part_octet c (omega arith) (omega arith) (λ e. omega arith) (λ e. omega arith) (λ e. omega arith)
digit_or_line c (inr is) =
    let same : c ≡ 95 = eqb-true c 95 is in
    part_octet c (omega arith) (omega arith) (λ e. omega arith) (λ e. omega arith) (λ e. omega arith)

letter_or_other : (c : ℕ) → (is_letter c ≡ true) ⊎ (((nat_le 48 c && nat_le c 57) || (c == 95)) ≡ true) → is_part_octet c ≡ true
letter_or_other c (inl is) = letter_part c is
letter_or_other c (inr is) = digit_or_line c (or_cases (nat_le 48 c && nat_le c 57) (c == 95) is)

names_part : (cs : List ℕ) → list_all is_name_octet cs ≡ true → IsPart cs
names_part [] are = refl
names_part (c ∷ cs) are =
    let both = and_parts (is_name_octet c) (list_all is_name_octet cs) are in
    and_from (is_part_octet c) (list_all is_part_octet cs)
    (letter_or_other c (or_cases (is_letter c) ((nat_le 48 c && nat_le c 57) || (c == 95)) both.0)) (names_part cs both.1)

pub name_part : (name : List ℕ) → is_name name ≡ true → IsPart name
name_part [] is = cc is
name_part (c ∷ cs) is =
    let both = and_parts (is_letter c) (list_all is_name_octet cs && nat_le (length cs) 15) is in
    let rest = and_parts (list_all is_name_octet cs) (nat_le (length cs) 15) both.1 in
    and_from (is_part_octet c) (list_all is_part_octet cs) (letter_part c both.0) (names_part cs rest.0)

-- parts and what separates them may appear in a field
pub part_text : (text : List ℕ) → IsPart text → IsText text
part_text [] is = refl
part_text (c ∷ cs) is =
    let both = and_parts (is_part_octet c) (list_all is_part_octet cs) is in
    let a = and_parts (not (c == 47)) (not (c == 58) && (not (c == 61) && is_text_octet c)) both.0 in
    let b = and_parts (not (c == 58)) (not (c == 61) && is_text_octet c) a.1 in
    let d = and_parts (not (c == 61)) (is_text_octet c) b.1 in
    and_from (is_text_octet c) (list_all is_text_octet cs) d.1 (part_text cs both.1)

pub both_text : (text : List ℕ) (c : ℕ) (rest : List ℕ) → IsText text → is_text_octet c ≡ true → IsText rest → IsText (text ++ c ∷ rest)
both_text text c rest a b d =
    list_all-append is_text_octet text (c ∷ rest)
    ∙ and_from (list_all is_text_octet text) (list_all is_text_octet (c ∷ rest)) a (and_from (is_text_octet c) (list_all is_text_octet rest) b d)

-- a part that lacks this octet
abbrev pub Lacks : ℕ → List ℕ → Type 0
Lacks octet text = list_all (λ c. not (c == octet)) text ≡ true

pub lacks_slash : (text : List ℕ) → IsPart text → Lacks 47 text
lacks_slash [] is = refl
lacks_slash (c ∷ cs) is =
    let both = and_parts (is_part_octet c) (list_all is_part_octet cs) is in
    let a = and_parts (not (c == 47)) (not (c == 58) && (not (c == 61) && is_text_octet c)) both.0 in
    and_from (not (c == 47)) (list_all (λ c. not (c == 47)) cs) a.0 (lacks_slash cs both.1)

pub lacks_colon : (text : List ℕ) → IsPart text → Lacks 58 text
lacks_colon [] is = refl
lacks_colon (c ∷ cs) is =
    let both = and_parts (is_part_octet c) (list_all is_part_octet cs) is in
    let a = and_parts (not (c == 47)) (not (c == 58) && (not (c == 61) && is_text_octet c)) both.0 in
    let b = and_parts (not (c == 58)) (not (c == 61) && is_text_octet c) a.1 in
    and_from (not (c == 58)) (list_all (λ c. not (c == 58)) cs) b.0 (lacks_colon cs both.1)

pub lacks_equals : (text : List ℕ) → IsPart text → Lacks 61 text
lacks_equals [] is = refl
lacks_equals (c ∷ cs) is =
    let both = and_parts (is_part_octet c) (list_all is_part_octet cs) is in
    let a = and_parts (not (c == 47)) (not (c == 58) && (not (c == 61) && is_text_octet c)) both.0 in
    let b = and_parts (not (c == 58)) (not (c == 61) && is_text_octet c) a.1 in
    let d = and_parts (not (c == 61)) (is_text_octet c) b.1 in
    and_from (not (c == 61)) (list_all (λ c. not (c == 61)) cs) d.0 (lacks_equals cs both.1)

first_at : (octet : ℕ) (text rest : List ℕ) → Lacks octet text → position_or_len (λ c. c == octet) (text ++ octet ∷ rest) ≡ length text
first_at octet [] rest is = rw (eq-eqb octet octet refl) refl
first_at octet (c ∷ cs) rest is =
    let both = and_parts (not (c == octet)) (list_all (λ c. not (c == octet)) cs) is in
    let later = first_at octet cs rest both.1 in
    rw (not-true (c == octet) both.0, later) (omega arith)

one_longer : (text : List ℕ) (octet : ℕ) → length (text ++ octet ∷ []) ≡ length text + 1
one_longer [] octet = refl
one_longer (c ∷ cs) octet = omega (arith, one_longer cs octet)

-- the parts before and after the first such octet
pub before_part : (octet : ℕ) (text rest : List ℕ) → Lacks octet text → before octet (text ++ octet ∷ rest) ≡ text
before_part octet text rest is = rw (first_at octet text rest is) (take_at text (octet ∷ rest) (length text) refl)

pub behind_part : (octet : ℕ) (text rest : List ℕ) → Lacks octet text → behind octet (text ++ octet ∷ rest) ≡ rest
behind_part octet text rest is =
    rw (first_at octet text rest is)
    (ap (drop (length text + 1)) (sym (append_assoc text (octet ∷ []) rest)) ∙ drop_at (text ++ octet ∷ []) rest (length text + 1) (one_longer text octet))
