-- Digits are a word, and a line that begins with neither a digit nor a space says no report.
use Rattle.std.proofs.Common.{◌≡◌, refl, subst, ℕ, ◌≤◌, ◌==◌, true, false, List, [], ◌∷◌, ◌++◌, arith}
use Rattle.std.specs.Prelude.{nat_le}
use Rattle.std.specs.Char.{is_ascii_digit}
use Rattle.std.specs.List.{list_all}
use Rattle.std.proofs.lemmas.Bool.{and_parts, leb-true}
use Rattle.wrp_records.specs.Words.{IsWord}
use Rattle.wrp_records.proofs.WordLemmas.{onto_word, word_octet}
use Rattle.wrp_plain.specs.LineTruth.{AreDigits}

digit_least : (c : ℕ) → is_ascii_digit c ≡ true → 33 ≤ c
digit_least c is =
    let low : 48 ≤ c = leb-true 48 c (and_parts (nat_le 48 c) (nat_le c 57) is).0 in
    omega arith

-- digits are a word
pub digits_are_word : (tick : List ℕ) → AreDigits tick → IsWord tick
digits_are_word [] h = refl
digits_are_word (c ∷ cs) h =
    let both = and_parts (is_ascii_digit c) (list_all is_ascii_digit cs) h in
    onto_word c cs (word_octet c (digit_least c both.0)) (digits_are_word cs both.1)

-- a line that begins with neither a digit nor a space says no report
pub says_none : (c : ℕ) (cs tick rest : List ℕ) → is_ascii_digit c ≡ false → (c == 32) ≡ false → AreDigits tick → c ∷ cs ≡ tick ++ 32 ∷ rest → ⊥
says_none c cs [] rest no_digit no_space digits e =
    let same : c ≡ 32 = cc in
    let space : (32 == 32) ≡ false = subst (λ (d : ℕ). (d == 32) ≡ false) same no_space in
    cc
says_none c cs (d ∷ tick) rest no_digit no_space digits e =
    let same : c ≡ d = cc in
    let digit : is_ascii_digit d ≡ true = (and_parts (is_ascii_digit d) (list_all is_ascii_digit tick) digits).0 in
    let other : is_ascii_digit d ≡ false = subst (λ (x : ℕ). is_ascii_digit x ≡ false) same no_digit in
    cc
