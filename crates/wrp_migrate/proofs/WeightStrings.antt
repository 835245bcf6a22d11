-- How many octets the text of a string or of a key has at least.
use Rattle.std.proofs.Common.{◌≡◌, ◌≤◌, ◌<◌, ◌+◌, ◌==◌, ◌&&◌, cond, ℕ, zero, suc, true, false, Bool, List, [], ◌∷◌, ◌++◌, length, take, drop, Option, Some, None, option_map, option_and_then, is_some, unwrap_or, nat_lt, nat_le, encode_utf8, refl, sym, ap, ◌∙◌, subst, inl, inr, arith, length-append, eqb-true}
use Rattle.std.proofs.lemmas.Bool.{cases_Bool, and_parts}
use Rattle.std.proofs.lemmas.Bool.Decides.{nat_tests}
use Rattle.std.proofs.lemmas.List.{length-drop, take-append-drop}
use Rattle.std.proofs.lemmas.Option.{none-some, same_Some}
use Rattle.std.proofs.lemmas.Str.{length-encode, len_utf8_bounds, len_utf8_ascii}
use Rattle.std.specs.Char.{is_digit}
use Rattle.std.specs.List.{prefix_len, list_all}
use Rattle.std.specs.Prelude.{slice_index}
use Rattle.std.specs.Str.Parse.{digits_value}
use Rattle.toml_parser.specs.Lexical.{Read, first, skip_ws, skip_from, skip_turn, skip_lines, split_while, is_bare, is_ws, starts_newline}
use Rattle.toml_parser.specs.Strings.{Key, simple_escape, hex_len, hex_escape, is_scalar, escape_char, escape, is_plain, at_delims, special, after_piece, body, trim_newline, one_line, quoted, starts_string, simple_key, key_after, key}

-- ---- options

pub mapped : {A B : Type 0} (f : A → B) (o : Option A) (y : B) → option_map f o ≡ Some y → (x : A) × (o ≡ Some x) × (f x ≡ y)
mapped f None y e = absurd (none-some y e)
mapped f (Some x) y e = (x, refl, same_Some (f x) y e)

pub chained : {A B : Type 0} (f : A → Option B) (o : Option A) (y : B) → option_and_then f o ≡ Some y → (x : A) × (o ≡ Some x) × (f x ≡ Some y)
chained f None y e = absurd (none-some y e)
chained f (Some x) y e = (x, refl, e)

-- ---- what is left of a text

pub drop_le : (n : ℕ) (text : List ℕ) → length (drop n text) ≤ length text
drop_le n text = let left = length-drop n text in omega (arith, left)

-- an octet that is not 0 is there
pub first_there : (text : List ℕ) → 0 < first text → length (drop 1 text) + 1 ≡ length text
first_there [] h = absurd (omega (arith, h))
first_there (c ∷ cs) h = omega arith

pub byte_there : (byte : ℕ) (text : List ℕ) → 0 < byte → (first text == byte) ≡ true → length (drop 1 text) + 1 ≡ length text
byte_there byte text h is = let same = eqb-true (first text) byte is in first_there text (omega (arith, h, same))

pub parts_length : (n : ℕ) (text : List ℕ) → length (take n text) + length (drop n text) ≡ length text
parts_length n text = sym (length-append (take n text) (drop n text)) ∙ ap length (take-append-drop n text)

pub skip_from_le : (comments inside : Bool) (text : List ℕ) → length (skip_from comments inside text) ≤ length text
unfolding skip_from
skip_from_le comments inside [] = omega arith
skip_from_le comments inside (c ∷ cs) =
    elim (cases_Bool (is_some (skip_turn comments inside c (first cs)))) [
      | inl more ↦ let on = skip_from_le comments (unwrap_or (skip_turn comments inside c (first cs)) false) cs in rw more (omega (arith, on))
      | inr stops ↦ rw stops (omega arith)
    ]

pub skip_ws_le : (text : List ℕ) → length (skip_ws text) ≤ length text
unfolding skip_ws
skip_ws_le text = drop_le (prefix_len is_ws text) text

-- ---- strings

encode_le : (c : ℕ) → length (encode_utf8 c) ≤ 4
encode_le c = let size = length-encode c in let bounds = (len_utf8_bounds c).1 in omega (arith, size, bounds)

encode_low : (c : ℕ) → c < 128 → length (encode_utf8 c) ≡ 1
encode_low c low = length-encode c ∙ len_utf8_ascii c low

simple_low : (x c : ℕ) → simple_escape x ≡ Some c → c < 128
simple_low x c e = grind (arith, nat_tests)

-- a character is of at most as many octets as its escape has with the backslash
simple_fits : (text : List ℕ) (c : ℕ) (rest : List ℕ) → option_map {U = ℕ × List ℕ} (λ c. (c, drop 1 text)) (simple_escape (first text)) ≡ Some (c, rest)
    → length (encode_utf8 c) + length rest ≤ length text + 1
simple_fits text c rest e =
    let found = mapped {B = ℕ × List ℕ} (λ c. (c, drop 1 text)) (simple_escape (first text)) (c, rest) e in
    let is : length (encode_utf8 found.0) ≡ length (encode_utf8 c) = ap (λ p. length (encode_utf8 p.0)) found.2 in
    let left : length (drop 1 text) ≡ length rest = ap (λ p. length p.1) found.2 in
    let size = encode_low found.0 (simple_low (first text) found.0 found.1) in
    let less = drop_le 1 text in
    omega (arith, size, less, is, left)

hex_len_two : (c : ℕ) → nat_lt 0 (hex_len c) ≡ true → 2 ≤ hex_len c
hex_len_two c h = grind (arith, nat_tests)

hex_len_there : (text : List ℕ) → nat_lt 0 (hex_len (first text)) ≡ true → length (drop 1 text) + 1 ≡ length text
hex_len_there [] h = absurd cc
hex_len_there (c ∷ cs) h = omega arith

hex_fits : (n : ℕ) (text : List ℕ) (c : ℕ) (rest : List ℕ) → 2 ≤ n → hex_escape n text ≡ Some (c, rest) → length (encode_utf8 c) + length rest ≤ length text + 2
unfolding hex_escape
hex_fits n text c rest two e =
    let value = digits_value 16 (take n text) in
    let whole = (nat_le n (length text) && list_all (λ c. is_digit c 16) (take n text)) && is_scalar value in
    elim (cases_Bool whole) [
      | inl passes ↦
          let front = (and_parts (nat_le n (length text) && list_all (λ c. is_digit c 16) (take n text)) (is_scalar value) passes).0 in
          let enough : nat_le n (length text) ≡ true = (and_parts (nat_le n (length text)) (list_all (λ c. is_digit c 16) (take n text)) front).0 in
          let room : n ≤ length text = grind (arith, nat_tests, enough) in
          let same = same_Some (value, drop n text) (c, rest) (rw passes at e) in
          let is : value ≡ c = ap (λ p. p.0) same in
          let left : drop n text ≡ rest = ap (λ p. p.1) same in
          let size = encode_le value in
          let less = length-drop n text in
          rw (← is, ← left) (omega (arith, size, less, room, two))
      | inr fails ↦ absurd (none-some (c, rest) (rw fails at e))
    ]

escape_char_fits : (text : List ℕ) (c : ℕ) (rest : List ℕ) → escape_char text ≡ Some (c, rest) → length (encode_utf8 c) + length rest ≤ length text + 1
unfolding escape_char
escape_char_fits text c rest e =
    elim (cases_Bool (nat_lt 0 (hex_len (first text)))) [
      | inl hex ↦
          let one = hex_len_there text hex in
          let fits = hex_fits (hex_len (first text)) (drop 1 text) c rest (hex_len_two (first text) hex) (rw hex at e) in
          omega (arith, one, fits)
      | inr simple ↦ simple_fits text c rest (rw simple at e)
    ]

escape_fits : (multi : Bool) (text bytes rest : List ℕ) → escape multi text ≡ Some (bytes, rest) → length bytes + length rest ≤ length text + 1
unfolding escape
escape_fits multi text bytes rest e =
    elim (cases_Bool (multi && starts_newline (skip_ws text))) [
      | inl line ↦
          let same = same_Some ([], skip_lines text) (bytes, rest) (rw line at e) in
          let none : [] ≡ bytes = ap (λ p. p.0) same in
          let left : skip_lines text ≡ rest = ap (λ p. p.1) same in
          let less = skip_from_le false false text in
          rw (← none, ← left) (omega (arith, less))
      | inr other ↦
          let found = mapped (λ p. (encode_utf8 p.0, p.1)) (escape_char text) (bytes, rest) (rw other at e) in
          let is : length (encode_utf8 found.0.0) ≡ length bytes = ap (λ p. length p.0) found.2 in
          let left : length found.0.1 ≡ length rest = ap (λ p. length p.1) found.2 in
          let fits = escape_char_fits text found.0.0 found.0.1 found.1 in
          omega (arith, fits, is, left)
    ]

-- a piece of a string, or its end
abbrev PieceFits : Option (List ℕ) → List ℕ → List ℕ → Type 0
PieceFits None next text = length next + 1 ≤ length text
PieceFits (Some bytes) next text = length bytes + length next ≤ length text

piece_is : (p q : Option (List ℕ) × List ℕ) (text : List ℕ) → p ≡ q → PieceFits p.0 p.1 text → PieceFits q.0 q.1 text
piece_is p q text is fits = subst (λ (r : Option (List ℕ) × List ℕ). PieceFits r.0 r.1 text) is fits

delims_fit : (delim : ℕ) (text : List ℕ) (piece : Option (List ℕ)) (next : List ℕ) → length (drop 1 text) + 1 ≡ length text
    → at_delims delim text ≡ Some (piece, next) → PieceFits piece next text
delims_fit delim text piece next one e =
    let count = prefix_len (λ c. c == delim) text in
    let less = length-drop 3 text in
    elim (cases_Bool (count == 3)) [
      | inl three ↦ piece_is (None, drop 3 text) (piece, next) text (same_Some (None, drop 3 text) (piece, next) (rw three at e)) (omega (arith, less, one))
      | inr other ↦ elim (cases_Bool (nat_lt count 6)) [
        | inl few ↦
            piece_is (Some (delim ∷ []), drop 1 text) (piece, next) text (same_Some (Some (delim ∷ []), drop 1 text) (piece, next) (rw (other, few) at e))
            (omega (arith, one))
        | inr many ↦ absurd (none-some (piece, next) (rw (other, many) at e))
      ]
    ]

newline_there : (text : List ℕ) → starts_newline text ≡ true → length (drop 1 text) + 1 ≡ length text
newline_there [] h = absurd cc
newline_there (c ∷ cs) h = omega arith

special_fits : (delim : ℕ) (multi : Bool) (text : List ℕ) (piece : Option (List ℕ)) (next : List ℕ) → 0 < delim
    → special delim multi text ≡ Some (piece, next) → PieceFits piece next text
unfolding special
special_fits delim multi text piece next h e =
    elim (cases_Bool (first text == delim)) [
      | inl at_delim ↦ ending multi (byte_there delim text h at_delim) (rw at_delim at e)
      | inr other ↦ elim (cases_Bool (first text == 92)) [
        | inl back ↦
            let found = mapped (λ p. (Some p.0, p.1)) (escape multi (drop 1 text)) (piece, next) (rw (other, back) at e) in
            let fits = escape_fits multi (drop 1 text) found.0.0 found.0.1 found.1 in
            let one = byte_there 92 text (omega arith) back in
            piece_is (Some found.0.0, found.0.1) (piece, next) text found.2 (omega (arith, fits, one))
        | inr plain ↦ elim (cases_Bool (multi && starts_newline text)) [
          | inl line ↦
              let one = newline_there text (and_parts multi (starts_newline text) line).1 in
              piece_is (Some (first text ∷ []), drop 1 text) (piece, next) text
              (same_Some (Some (first text ∷ []), drop 1 text) (piece, next) (rw (other, plain, line) at e)) (omega (arith, one))
          | inr none ↦ absurd (none-some (piece, next) (rw (other, plain, none) at e))
        ]
      ]
    ]
  where
    ending : (multi : Bool) → length (drop 1 text) + 1 ≡ length text → cond multi (at_delims delim text) (Some (None, drop 1 text)) ≡ Some (piece, next)
        → PieceFits piece next text
    ending true one is = delims_fit delim text piece next one is
    ending false one is = piece_is (None, drop 1 text) (piece, next) text (same_Some (None, drop 1 text) (piece, next) is) (omega (arith, one))

plain_there : (delim : ℕ) (multi : Bool) (text : List ℕ) → is_plain delim multi (first text) ≡ true → length (drop 1 text) + 1 ≡ length text
plain_there delim multi [] h = let none : is_plain delim multi 0 ≡ false = grind (arith, nat_tests) in absurd cc
plain_there delim multi (c ∷ cs) h = omega arith

-- what comes after a piece, if the same holds of the pieces that follow
after_fits : (more : List ℕ → Read (List ℕ)) → ((next t left : List ℕ) → more next ≡ Some (t, left) → (length t + 1) + length left ≤ length next)
    → (piece : Option (List ℕ)) (next text s rest : List ℕ) → PieceFits piece next text → after_piece more piece next ≡ Some (s, rest)
    → (length s + 1) + length rest ≤ length text
after_fits more all None next text s rest fits is =
    let same = same_Some ([], next) (s, rest) is in
    let none : 0 ≡ length s = ap (λ p. length p.0) same in
    let left : length next ≡ length rest = ap (λ p. length p.1) same in
    omega (arith, fits, none, left)
after_fits more all (Some bytes) next text s rest fits is =
    let found = mapped (λ p. (bytes ++ p.0, p.1)) (more next) (s, rest) is in
    let size : length (bytes ++ found.0.0) ≡ length s = ap (λ p. length p.0) found.2 in
    let left : length found.0.1 ≡ length rest = ap (λ p. length p.1) found.2 in
    let on = all next found.0.0 found.0.1 found.1 in
    let parts = length-append bytes found.0.0 in
    omega (arith, fits, on, parts, size, left)

-- the content of a string has at most the octets of its text, and the closing delimiter one
body_fits : (delim : ℕ) (multi : Bool) (n : ℕ) (text s rest : List ℕ) → 0 < delim → body delim multi n text ≡ Some (s, rest)
    → (length s + 1) + length rest ≤ length text
unfolding body
body_fits delim multi zero text s rest h e = absurd (none-some (s, rest) e)
body_fits delim multi (suc n) text s rest h e =
    elim (cases_Bool (is_plain delim multi (first text))) [
      | inl plain ↦
          let found = mapped (λ p. (first text ∷ [] ++ p.0, p.1)) (body delim multi n (drop 1 text)) (s, rest) (rw plain at e) in
          let size : suc (length found.0.0) ≡ length s = ap (λ p. length p.0) found.2 in
          let left : length found.0.1 ≡ length rest = ap (λ p. length p.1) found.2 in
          let fits = body_fits delim multi n (drop 1 text) found.0.0 found.0.1 h found.1 in
          let one = plain_there delim multi text plain in
          omega (arith, fits, one, size, left)
      | inr other ↦
          let found = chained (λ p. after_piece (body delim multi n) p.0 p.1) (special delim multi text) (s, rest) (rw other at e) in
          after_fits (body delim multi n) (λ next t left is. body_fits delim multi n next t left h is) found.0.0 found.0.1 text s rest
          (special_fits delim multi text found.0.0 found.0.1 h found.1) found.2
    ]

starts_there : (text : List ℕ) → starts_string text ≡ true → 0 < first text
starts_there text h = grind (arith, nat_tests)

one_line_fits : (text s rest : List ℕ) → starts_string text ≡ true → one_line text ≡ Some (s, rest) → (length s + 2) + length rest ≤ length text
unfolding one_line
one_line_fits text s rest starts e =
    let there = starts_there text starts in
    let one = first_there text there in
    let fits = body_fits (first text) false (length text) (drop 1 text) s rest there e in
    omega (arith, one, fits)

trim_le : (text : List ℕ) → length (trim_newline text) ≤ length text
trim_le text =
    let one = drop_le 1 text in
    let two = drop_le 2 text in
    elim (cases_Bool (first text == 10)) [
      | inl line ↦ rw line one
      | inr other ↦ elim (cases_Bool (first text == 13 && slice_index text 1 == 10)) [
        | inl both ↦ rw (other, both) two
        | inr none ↦ rw (other, none) (omega arith)
      ]
    ]

pub quoted_fits : (text s rest : List ℕ) → starts_string text ≡ true → quoted text ≡ Some (s, rest) → (length s + 2) + length rest ≤ length text
unfolding quoted
quoted_fits text s rest starts e =
    elim (cases_Bool (slice_index text 1 == first text && slice_index text 2 == first text)) [
      | inl three ↦
          let there = starts_there text starts in
          let one = first_there text there in
          let fits = body_fits (first text) true (length text) (trim_newline (drop 3 text)) s rest there (rw three at e) in
          let trimmed = trim_le (drop 3 text) in
          let less = length-drop 3 text in
          omega (arith, one, fits, trimmed, less)
      | inr single ↦ one_line_fits text s rest starts (rw single at e)
    ]

-- ---- keys

simple_key_fits : (text k rest : List ℕ) → simple_key text ≡ Some (k, rest) → length k + length rest ≤ length text
unfolding simple_key
simple_key_fits text k rest e =
    elim (cases_Bool (starts_string text)) [
      | inl quoted_key ↦ let fits = one_line_fits text k rest quoted_key (rw quoted_key at e) in omega (arith, fits)
      | inr other ↦ elim (cases_Bool (is_bare (first text))) [
        | inl bare ↦
            let same = same_Some (split_while is_bare text) (k, rest) (rw (other, bare) at e) in
            let is : take (prefix_len is_bare text) text ≡ k = ap (λ p. p.0) same in
            let left : drop (prefix_len is_bare text) text ≡ rest = ap (λ p. p.1) same in
            let parts = parts_length (prefix_len is_bare text) text in
            rw (← is, ← left) (omega (arith, parts))
        | inr none ↦ absurd (none-some (k, rest) (rw (other, none) at e))
      ]
    ]

key_after_fits : (n : ℕ) (path : List (List ℕ)) (text : List ℕ) (k : Key) (rest : List ℕ) → key_after n path text ≡ Some (k, rest)
    → length k.1 + length rest ≤ length text
unfolding key_after
key_after_fits zero path text k rest e = absurd (none-some (k, rest) e)
key_after_fits (suc n) path text k rest e =
    let found = chained
    (λ (part : List ℕ × List ℕ). cond (first (skip_ws part.1) == 46) (key_after n (path ++ part.0 ∷ []) (skip_ws (drop 1 (skip_ws part.1))))
    (Some ((path, part.0), skip_ws part.1)))
    (simple_key text) (k, rest) e in
    let part = found.0 in
    let fits = simple_key_fits text part.0 part.1 found.1 in
    let less = skip_ws_le part.1 in
    elim (cases_Bool (first (skip_ws part.1) == 46)) [
      | inl dotted ↦
          let on = key_after_fits n (path ++ part.0 ∷ []) (skip_ws (drop 1 (skip_ws part.1))) k rest (rw dotted at found.2) in
          let first_less = skip_ws_le (drop 1 (skip_ws part.1)) in
          let then_less = drop_le 1 (skip_ws part.1) in
          omega (arith, on, fits, less, first_less, then_less)
      | inr last ↦
          let same = same_Some ((path, part.0), skip_ws part.1) (k, rest) (rw last at found.2) in
          let size : length part.0 ≡ length k.1 = ap (λ p. length p.0.1) same in
          let left : length (skip_ws part.1) ≡ length rest = ap (λ p. length p.1) same in
          omega (arith, fits, less, size, left)
    ]

pub key_fits : (text : List ℕ) (k : Key) (rest : List ℕ) → key text ≡ Some (k, rest) → length k.1 + length rest ≤ length text
key_fits text k rest e = key_after_fits 80 [] text k rest e
