-- The value of digits grows with each digit.
use Rattle.std.proofs.Common.{◌≤◌, ◌<◌, ◌+◌, ◌-◌, ◌*◌, ℕ, zero, suc, List, [], ◌∷◌, take, get_or, length, fold, arith}
use Rattle.wrp_fields.specs.Numbers.{value_of}

-- with one more digit
abbrev next : ℕ → ℕ → ℕ
next value digit = value * 10 + (digit - 48)

grows : (value : ℕ) (digits : List ℕ) → value ≤ fold next value digits
grows value [] = omega arith
grows value (digit ∷ digits) = let more : next value digit ≤ fold next (next value digit) digits = grows (next value digit) digits in omega arith

reaches : (value : ℕ) (digits : List ℕ) (i : ℕ) → i < length digits → next (fold next value (take i digits)) (get_or digits i 0) ≤ fold next value digits
reaches value [] i within = absurd (omega arith)
reaches value (digit ∷ digits) zero within = grows (next value digit) digits
reaches value (digit ∷ digits) (suc i) within = reaches (next value digit) digits i (omega arith)

-- the value of the digits that were read, with the next one, is at most the value of all
pub value_reaches : (digits : List ℕ) (i : ℕ) → i < length digits → value_of (take i digits) * 10 + (get_or digits i 0 - 48) ≤ value_of digits
value_reaches digits i within = reaches 0 digits i within
