-- Numbers in a line: an optional `-`, then 1 to 39 decimal digits, in a range (this project's profile).
use Rattle.std.specs.Prelude.{ℕ, ℤ, pos, neg_ℤ, ◌+◌, ◌-◌, ◌*◌, ◌==◌, ◌&&◌, nat_le, Bool, if◌then◌else◌, Option, None, Some, option_map, option_and_then, unsigned_abs, int_le, List, [], ◌∷◌, length}
use Rattle.std.specs.List.{fold, list_all}
use Rattle.std.specs.Char.{is_ascii_digit}

-- the value of decimal digits: each is worth ten times the next
abbrev pub value_of : List ℕ → ℕ
value_of digits = fold (λ value digit. value * 10 + (digit - 48)) 0 digits

-- whether octets are 1 to 39 decimal digits
abbrev pub are_digits : List ℕ → Bool
are_digits octets =
    nat_le 1 (length octets) && nat_le (length octets) 39 && list_all is_ascii_digit octets

-- the number that 1 to 39 digits write
abbrev pub digits_of : List ℕ → Option ℕ
digits_of octets = if are_digits octets then Some (value_of octets) else None

-- the number that a text writes: digits, or `-` (octet 45) and digits
abbrev pub number_of : List ℕ → Option ℤ
number_of [] = None
number_of (octet ∷ octets) =
    if octet == 45 then option_map (λ n. neg_ℤ (pos n)) (digits_of octets)
    else option_map pos (digits_of (octet ∷ octets))

-- the number, if it is from least to greatest
abbrev pub kept_in : ℤ → ℤ → ℤ → Option ℤ
kept_in least greatest z = if int_le least z && int_le z greatest then Some z else None

-- the number that a text writes, if it is from least to greatest
abbrev pub number_in : ℤ → ℤ → List ℕ → Option ℤ
number_in least greatest text = option_and_then (kept_in least greatest) (number_of text)

-- the same for numbers from 0 on, without their sign
abbrev pub natural_in : ℕ → ℕ → List ℕ → Option ℕ
natural_in least greatest text =
    option_map unsigned_abs (number_in (pos least) (pos greatest) text)

-- a number from 0 on, if it is from least to greatest
abbrev pub held_in : ℕ → ℕ → ℕ → Option ℕ
held_in least greatest n = if nat_le least n && nat_le n greatest then Some n else None

-- the number that digits without a sign write, if it is from least to greatest
abbrev pub unsigned_in : ℕ → ℕ → List ℕ → Option ℕ
unsigned_in least greatest text = option_and_then (held_in least greatest) (digits_of text)
