-- A text that begins with `-` is read as its other octets are; any other text is read as digits.
use Rattle.std.proofs.Common.{ℕ, ℤ, ◌≡◌, ◌==◌, ◌⊎◌, inl, inr, ◌<◌, ◌≤◌, ◌-◌, ◌^◌, min, Bool, true, false, Option, Some, None, List, [], ◌∷◌, length, take, drop, get_or, refl, sym, ap, ◌∙◌, rules, arith, pos, negsuc, neg_ℤ}
use Rattle.std.proofs.lemmas.List.{take_all}
use Rattle.std.proofs.lemmas.Bool.{lt-leb, cases_lt}
use Rattle.std.specs.Prelude.{int_le, unsigned_abs, unwrap_or, option_map, option_and_then}
use Rattle.wrp_fields.specs.Numbers.{digits_of, number_in, kept_in}
use Rattle.wrp_fields.proofs.numbers.number.Goals as goal

-- a text that begins with `-` writes the opposite of what its other octets write
below : (least greatest : ℤ) (text : List ℕ) → 1 ≤ length text → get_or text 0 0 ≡ 45
    → option_and_then (kept_in least greatest) (option_map (λ n. neg_ℤ (pos n)) (digits_of (take (length text - 1) (drop 1 text)))) ≡ number_in least greatest text
below least greatest [] some first = absurd (omega arith)
below least greatest (octet ∷ octets) some first =
    rw (first, take_all (length (octet ∷ octets) - 1) octets (omega arith)) refl

-- a number beyond the range is not kept
past_above : (greatest : ℤ) (n limit : ℕ) → unsigned_abs greatest < limit → limit ≤ n → int_le (pos n) greatest ≡ false
past_above (pos g) n limit small over = lt-leb n g (omega arith)
past_above (negsuc g) n limit small over = refl

-- a number that is above the greatest is not kept
outside_above : (least greatest z : ℤ) (b : Bool) → int_le least z ≡ b → int_le z greatest ≡ false → kept_in least greatest z ≡ None
outside_above least greatest z true low e = rw (low, e) refl
outside_above least greatest z false low e = rw low refl

-- cutting a number to such a limit does not change what is kept of it
kept_above_at : (least greatest : ℤ) (n limit : ℕ) → unsigned_abs greatest < limit → (n < limit) ⊎ (limit ≤ n)
    → kept_in least greatest (pos (min n limit)) ≡ kept_in least greatest (pos n)
kept_above_at least greatest n limit small (inl under) =
    let same : min n limit ≡ n = omega arith in
    ap (λ m. kept_in least greatest (pos m)) same
kept_above_at least greatest n limit small (inr over) =
    let held : limit ≤ min n limit = omega arith in
    outside_above least greatest (pos (min n limit)) (int_le least (pos (min n limit))) refl (past_above greatest (min n limit) limit small held)
    ∙ sym (outside_above least greatest (pos n) (int_le least (pos n)) refl (past_above greatest n limit small over))

-- a number that was cut to a limit beyond the range is kept exactly if the number itself is kept
kept_held : (least greatest : ℤ) (digits : Option ℕ) (z : ℤ) → unsigned_abs greatest < 2 ^ 127 - 1
    → Some z ≡ option_map (λ n. pos (min n (2 ^ 127 - 1))) digits
    → kept_in least greatest z ≡ option_and_then (kept_in least greatest) (option_map pos digits)
kept_held least greatest None z small e = cc e
kept_held least greatest (Some n) z small e =
    let same : z ≡ pos (min n (2 ^ 127 - 1)) = ap (λ o. unwrap_or o z) e in
    ap (kept_in least greatest) same ∙ kept_above_at least greatest n (2 ^ 127 - 1) small (cases_lt n (2 ^ 127 - 1))

-- a text that does not begin with `-` writes what its digits write
above : (least greatest : ℤ) (text : List ℕ) → (1 ≤ length text → (get_or text 0 0 == 45) ≡ false)
    → option_and_then (kept_in least greatest) (option_map pos (digits_of text)) ≡ number_in least greatest text
above least greatest [] other = refl
above least greatest (octet ∷ octets) other = rw (other (omega arith)) refl

pub returns-in_ok-size-in_default-clause-value : goal.returns-in_ok-size-in_default-clause-value
returns-in_ok-size-in_default-clause-value c =
    let kept = kept_held c.args.least c.args.greatest (digits_of c.args.text.now) c.in_ok-size-in_default.field-0 c.requires.greatest (search rules) in
    let read = above c.args.least c.args.greatest c.args.text.now (λ some. search rules) in
    search (rules, kept, read)

pub returns-in-45-clause-value : goal.returns-in-45-clause-value
returns-in-45-clause-value c =
    let read = below c.args.least c.args.greatest c.args.text.now c.in-45.len_at_least (search rules) in
    search (rules, read)
