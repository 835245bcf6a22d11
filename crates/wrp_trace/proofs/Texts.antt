-- Texts that may appear in a field, and the lines that they make.
use Rattle.std.proofs.Common.{◌≡◌, ℕ, suc, ◌<◌, ◌≤◌, ◌/◌, ◌%◌, ◌^◌, ◌&&◌, ◌||◌, not, ◌⊎◌, List, [], ◌∷◌, Bool, true, false, length, refl, ap, ◌∙◌, inl, inr, arith}
use Rattle.std.specs.Prelude.{◌==◌, nat_le, slice_index, slice_index_or}
use Rattle.std.specs.List.{list_all, join_with_byte, All}
use Rattle.std.specs.Fmt.{decimal}
use Rattle.std.specs.Str.Parse.{AllDigits}
use Rattle.std.proofs.lemmas.Bool.{ne_eqb, lt-ltb, not-true, leb-true, eqb-true, and_parts, and_from, or_cases}
use Rattle.std.proofs.lemmas.Fmt.{decimal_is_IsNumeral_wide}
use Rattle.std.proofs.lemmas.List.Folds.{list_all-append}
use Rattle.std.proofs.lemmas.List.Sums.{AllPass-from_list_all}
use Rattle.std.proofs.lemmas.List.Splits.{slice_split_none, slice_split_at}
use Rattle.std.proofs.lemmas.Str.Parse.{digit_from_value}
use Rattle.hex.specs.Hex.{encode_with, encode_lower, lower_digits, IsBytes}
use Rattle.wrp_base.specs.Lines.{parts_of}
use Rattle.wrp_caldb.specs.Name.{is_letter, is_name_octet, is_name}
use Rattle.wrp_trace.specs.Inputs.{input_of, read_of}
use Rattle.wrp_fields.specs.Reading.{is_plain_octet, is_plain}
use Rattle.wrp_trace.specs.LineSetting.{LineSetting}

-- an octet that may appear in a line, and is not a comma
abbrev pub is_text_octet : ℕ → Bool
is_text_octet octet = not (octet == 44) && is_plain_octet octet

-- a text that may appear in a field
abbrev pub IsText : List ℕ → Type 0
IsText text = list_all is_text_octet text ≡ true

-- the same for each of several texts
abbrev pub AreTexts : List (List ℕ) → Type 0
AreTexts [] = Unit {0}
AreTexts (text ∷ texts) = IsText text × AreTexts texts

-- from `-` on, all octets below 128 may appear in a field
pub text_octet : (c : ℕ) → 45 ≤ c → c < 128 → is_text_octet c ≡ true
text_octet c low high =
    rw (ne_eqb c 44 (λ e. omega arith), ne_eqb c 34 (λ e. omega arith), ne_eqb c 13 (λ e. omega arith), ne_eqb c 10 (λ e. omega arith), lt-ltb c 128 high)
    refl

-- decimal digits
digits_text : (ds : List ℕ) → AllDigits 10 ds → IsText ds
digits_text [] d = refl
digits_text (c ∷ cs) d =
    let range = digit_from_value c d.0 in
    and_from (is_text_octet c) (list_all is_text_octet cs) (text_octet c (omega (arith, range.0)) (omega (arith, range.1))) (digits_text cs d.1)

pub decimal_text : (n : ℕ) → n < 10 ^ 64 → IsText (decimal n)
decimal_text n small = digits_text (decimal n) (decimal_is_IsNumeral_wide n small).0.1

-- hex digits
digit_text : (d : ℕ) → d < 16 → is_text_octet (slice_index lower_digits d) ≡ true
digit_text d below = AllPass-from_list_all is_text_octet lower_digits refl d 0 below

pub hex_text : (octets : List ℕ) → IsBytes octets → IsText (encode_lower octets)
unfolding encode_with
hex_text [] fit = refl
hex_text (octet ∷ octets) fit =
    let small : octet < 256 = fit 0 in
    let high = digit_text (octet / 16) (omega arith) in
    let low = digit_text (octet % 16) (omega arith) in
    and_from (is_text_octet (slice_index lower_digits (octet / 16))) _ high
    (and_from (is_text_octet (slice_index lower_digits (octet % 16))) (list_all is_text_octet (encode_lower octets)) low (hex_text octets (λ k. fit (suc k))))

-- names
letter_text : (c : ℕ) → is_letter c ≡ true → is_text_octet c ≡ true
letter_text c is =
    let range = and_parts (nat_le 97 c) (nat_le c 122) is in
    let low : 97 ≤ c = leb-true 97 c range.0 in
    let high : c ≤ 122 = leb-true c 122 range.1 in
    text_octet c (omega arith) (omega arith)

digit_or_line : (c : ℕ) → ((nat_le 48 c && nat_le c 57) ≡ true) ⊎ ((c == 95) ≡ true) → is_text_octet c ≡ true
digit_or_line c (inl is) =
    let range = and_parts (nat_le 48 c) (nat_le c 57) is in
    let low : 48 ≤ c = leb-true 48 c range.0 in
    let high : c ≤ 57 = leb-true c 57 range.1 in
    text_octet c (omega arith) (omega arith)
digit_or_line c (inr is) =
    let same : c ≡ 95 = eqb-true c 95 is in
    text_octet c (omega arith) (omega arith)

letter_or_other : (c : ℕ) → (is_letter c ≡ true) ⊎ (((nat_le 48 c && nat_le c 57) || (c == 95)) ≡ true) → is_text_octet c ≡ true
letter_or_other c (inl is) = letter_text c is
letter_or_other c (inr is) = digit_or_line c (or_cases (nat_le 48 c && nat_le c 57) (c == 95) is)

name_octet_text : (c : ℕ) → is_name_octet c ≡ true → is_text_octet c ≡ true
name_octet_text c is = letter_or_other c (or_cases (is_letter c) ((nat_le 48 c && nat_le c 57) || (c == 95)) is)

names_text : (cs : List ℕ) → list_all is_name_octet cs ≡ true → IsText cs
names_text [] are = refl
names_text (c ∷ cs) are =
    let both = and_parts (is_name_octet c) (list_all is_name_octet cs) are in
    and_from (is_text_octet c) (list_all is_text_octet cs) (name_octet_text c both.0) (names_text cs both.1)

pub name_text : (name : List ℕ) → is_name name ≡ true → IsText name
name_text [] is = cc is
name_text (c ∷ cs) is =
    let both = and_parts (is_letter c) (list_all is_name_octet cs && nat_le (length cs) 15) is in
    let rest = and_parts (list_all is_name_octet cs) (nat_le (length cs) 15) both.1 in
    and_from (is_text_octet c) (list_all is_text_octet cs) (letter_text c both.0) (names_text cs rest.0)

-- Lines

comma_free : (text : List ℕ) → IsText text → All (λ octet. (octet == 44) ≡ false) text
comma_free text is k d below =
    let octet = AllPass-from_list_all is_text_octet text is k d below in
    not-true (slice_index_or text k d == 44) (and_parts (not (slice_index_or text k d == 44)) (is_plain_octet (slice_index_or text k d)) octet).0

-- the parts of texts with commas between them are the texts
pub parts_back : (text : List ℕ) (texts : List (List ℕ)) → AreTexts (text ∷ texts)
    → parts_of (join_with_byte 44 (text ∷ texts)) ≡ text ∷ texts
parts_back text [] are = slice_split_none (λ octet. octet == 44) text (comma_free text are.0)
parts_back text (next ∷ texts) are =
    slice_split_at (λ octet. octet == 44) text 44 (join_with_byte 44 (next ∷ texts)) (comma_free text are.0) refl
    ∙ ap (λ parts. text ∷ parts) (parts_back next texts are.1)

plain_text : (text : List ℕ) → IsText text → list_all is_plain_octet text ≡ true
plain_text [] is = refl
plain_text (c ∷ cs) is =
    let both = and_parts (is_text_octet c) (list_all is_text_octet cs) is in
    and_from (is_plain_octet c) (list_all is_plain_octet cs) (and_parts (not (c == 44)) (is_plain_octet c) both.0).1 (plain_text cs both.1)

-- texts with commas between them may appear in a line
pub plain_line : (text : List ℕ) (texts : List (List ℕ)) → AreTexts (text ∷ texts)
    → list_all is_plain_octet (join_with_byte 44 (text ∷ texts)) ≡ true
plain_line text [] are = plain_text text are.0
plain_line text (next ∷ texts) are =
    list_all-append is_plain_octet text (44 ∷ join_with_byte 44 (next ∷ texts))
    ∙ and_from (list_all is_plain_octet text) (list_all is_plain_octet (join_with_byte 44 (next ∷ texts))) (plain_text text are.0) (plain_line next texts are.1)

-- a line that begins with an octet is plain if all its octets are
pub starts : (c : ℕ) (cs : List ℕ) (texts : List (List ℕ)) → list_all is_plain_octet (join_with_byte 44 ((c ∷ cs) ∷ texts)) ≡ true
    → is_plain (join_with_byte 44 ((c ∷ cs) ∷ texts)) ≡ true
starts c cs [] are = are
starts c cs (next ∷ texts) are = are

-- texts with commas between them say what the texts say as fields
pub line_says : (site : LineSetting) (c : ℕ) (cs : List ℕ) (texts : List (List ℕ)) → AreTexts ((c ∷ cs) ∷ texts)
    → read_of site (join_with_byte 44 ((c ∷ cs) ∷ texts)) ≡ input_of site ((c ∷ cs) ∷ texts)
line_says site c cs texts are =
    rw (starts c cs texts (plain_line (c ∷ cs) texts are), parts_back (c ∷ cs) texts are) refl
