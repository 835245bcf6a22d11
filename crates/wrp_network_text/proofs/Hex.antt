-- Identities that hex digits spell: below 2^64, and different if the digits are.
use Rattle.std.proofs.Common.{◌≡◌, ◌<◌, ◌≤◌, ◌+◌, ◌-◌, ◌*◌, ◌^◌, ◌==◌, ℕ, zero, suc, List, [], ◌∷◌, Bool, true, false, Option, None, Some, cond, fold, length, drop, get_or, drop-cons, refl, sym, ap, ap₂, ◌∙◌, arith, lit<}
use Rattle.std.proofs.lemmas.Bool.{and_parts, eqb-true}
use Rattle.std.proofs.lemmas.Bool.Decides.{nat_tests}
use Rattle.std.specs.Prelude.{nat_le}
use Rattle.std.specs.List.{list_all}
use Rattle.wrp_caldb.specs.Name.{is_hex_digit, is_identity}
use Rattle.wrp_network_text.specs.Config.{hex_value, hex_number, identity_of}

-- one digit more
abbrev step : ℕ → ℕ → ℕ
step n c = 16 * n + hex_value c

-- how much this many digits more may make of a number below this
abbrev room : ℕ → ℕ → ℕ
room zero most = most
room (suc k) most = room k (16 * most)

digit_cases : (c : ℕ) (low : Bool) → nat_le c 57 ≡ low → is_hex_digit c ≡ true
    → (cond low (c - 48) (c - 87) < 16) × (c ≡ cond low (cond low (c - 48) (c - 87) + 48) (cond low (c - 48) (c - 87) + 87))
digit_cases c true le is =
    let low : c ≤ 57 = grind (arith, nat_tests, le) in
    let least : 48 ≤ c = grind (arith, nat_tests, le, is) in
    (omega (arith, low, least), omega (arith, low, least))
digit_cases c false le is =
    let high : 57 < c = grind (arith, nat_tests, le) in
    let range : (97 ≤ c) × (c ≤ 102) = (grind (arith, nat_tests, le, is), grind (arith, nat_tests, le, is)) in
    (omega (arith, high, range), omega (arith, high, range))

digit_small : (c : ℕ) → is_hex_digit c ≡ true → hex_value c < 16
digit_small c is = (digit_cases c (nat_le c 57) refl is).0

digit_same : (c d : ℕ) (low low' : Bool) → nat_le c 57 ≡ low → nat_le d 57 ≡ low' → is_hex_digit c ≡ true → is_hex_digit d ≡ true
    → cond low (c - 48) (c - 87) ≡ cond low' (d - 48) (d - 87) → c ≡ d
digit_same c d true true l m ic id e =
    let a = digit_cases c true l ic in let b = digit_cases d true m id in a.1 ∙ ap (λ n. n + 48) e ∙ sym b.1
digit_same c d false false l m ic id e =
    let a = digit_cases c false l ic in let b = digit_cases d false m id in a.1 ∙ ap (λ n. n + 87) e ∙ sym b.1
digit_same c d true false l m ic id e =
    let low : c ≤ 57 = grind (arith, nat_tests, l) in
    let high : 97 ≤ d = grind (arith, nat_tests, m, id) in
    let least : 48 ≤ c = grind (arith, nat_tests, l, ic) in
    absurd (omega (arith, low, high, least, e))
digit_same c d false true l m ic id e =
    let low : d ≤ 57 = grind (arith, nat_tests, m) in
    let high : 97 ≤ c = grind (arith, nat_tests, l, ic) in
    let least : 48 ≤ d = grind (arith, nat_tests, m, id) in
    absurd (omega (arith, low, high, least, e))

-- digits read after a number are at least that number
pub at_least : (xs : List ℕ) (a : ℕ) → a ≤ fold step a xs
at_least [] a = omega arith
at_least (x ∷ xs) a = let later = at_least xs (step a x) in omega (arith, later)

pub below_room : (xs : List ℕ) (a most : ℕ) → list_all is_hex_digit xs ≡ true → a < most → fold step a xs < room (length xs) most
below_room [] a most all h = h
below_room (x ∷ xs) a most all h =
    let parts = and_parts (is_hex_digit x) (list_all is_hex_digit xs) all in
    let small = digit_small x parts.0 in
    below_room xs (step a x) (16 * most) parts.1 (omega (arith, h, small))

sixteen : (xs : List ℕ) (n : ℕ) → length xs ≡ n → list_all is_hex_digit xs ≡ true → hex_number xs < room n 1
sixteen xs n e all = let small = below_room xs 0 1 all (lit< tt) in rw e at small

identity_if : (text : List ℕ) (b : Bool) → is_identity text ≡ b → cond b (hex_number text) 0 < 2 ^ 64
identity_if text true e =
    let parts = and_parts (list_all is_hex_digit text) (length text == 16) e in
    sixteen text 16 (eqb-true (length text) 16 parts.1) parts.0
identity_if text false e = lit< tt

pub identity_small : (o : Option (List ℕ)) → identity_of o < 2 ^ 64
identity_small None = lit< tt
identity_small (Some text) = identity_if text (is_identity text) refl

-- as many digits that read as one number are the same
digits_same : (xs ys : List ℕ) (a b : ℕ) → length xs ≡ length ys → list_all is_hex_digit xs ≡ true → list_all is_hex_digit ys ≡ true
    → fold step a xs ≡ fold step b ys → (a ≡ b) × (xs ≡ ys)
digits_same [] [] a b len ax ay e = (e, refl)
digits_same [] (y ∷ ys) a b len ax ay e = absurd (omega (arith, len))
digits_same (x ∷ xs) [] a b len ax ay e = absurd (omega (arith, len))
digits_same (x ∷ xs) (y ∷ ys) a b len ax ay e =
    let px = and_parts (is_hex_digit x) (list_all is_hex_digit xs) ax in
    let py = and_parts (is_hex_digit y) (list_all is_hex_digit ys) ay in
    let shorter : length xs ≡ length ys = omega (arith, len) in
    let later = digits_same xs ys (step a x) (step b y) shorter px.1 py.1 e in
    let sx = digit_small x px.0 in
    let sy = digit_small y py.0 in
    let value : hex_value x ≡ hex_value y = omega (arith, later.0, sx, sy) in
    let front : a ≡ b = omega (arith, later.0, sx, sy) in
    (front, ap₂ (λ c cs. c ∷ cs) (digit_same x y (nat_le x 57) (nat_le y 57) refl refl px.0 py.0 value) later.1)

-- texts that spell one identity are the same
pub identity_once : (s t : List ℕ) → is_identity s ≡ true → is_identity t ≡ true → hex_number s ≡ hex_number t → s ≡ t
identity_once s t is it e =
    let ps = and_parts (list_all is_hex_digit s) (length s == 16) is in
    let pt = and_parts (list_all is_hex_digit t) (length t == 16) it in
    (digits_same s t 0 0 (eqb-true (length s) 16 ps.1 ∙ sym (eqb-true (length t) 16 pt.1)) ps.0 pt.0 e).1

-- each number on the way is at most what the digits spell
pub hex_fits : (digits : List ℕ) (i number : ℕ) → list_all is_hex_digit digits ≡ true → length digits ≡ 16 → i < length digits
    → hex_number digits ≡ fold step number (drop i digits) → 16 * number + hex_value (get_or digits i 0) < 2 ^ 64
hex_fits digits i number all sixteen_digits within is =
    let whole = sixteen digits 16 sixteen_digits all in
    let later = at_least (drop (suc i) digits) (step number (get_or digits i 0)) in
    let split : fold step number (drop i digits) ≡ fold step (step number (get_or digits i 0)) (drop (suc i) digits) =
    ap (fold step number) (drop-cons digits i 0 within) in
    omega (arith, whole, later, split, is)
