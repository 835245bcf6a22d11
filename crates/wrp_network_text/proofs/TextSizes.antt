-- Numbers in decimal are short.
use Rattle.std.proofs.Common.{◌<◌, ◌≤◌, ◌+◌, ◌^◌, ℕ, suc, ℤ, pos, negsuc, FitsSigned, length, arith, lit<}
use Rattle.std.proofs.lemmas.Fmt.{length-decimal-le, length-decimal-le_wide}
use Rattle.std.proofs.lemmas.Int.{ints}
use Rattle.std.specs.Fmt.{decimal, signed_decimal}
use Rattle.std.specs.Int.{w128}

-- a number of 127 bits, with its sign
pub side_short : (z : ℤ) → FitsSigned w128 z → length (signed_decimal z) ≤ 40
side_short (pos n) fits =
    let small : n < 2 ^ 127 = omega (arith, ints, fits) in
    let digits : length (decimal n) ≤ 39 = length-decimal-le_wide 39 n (lit< tt) (omega arith) (omega arith) in
    omega (arith, digits)
side_short (negsuc n) fits =
    let small : suc n < 2 ^ 127 + 1 = omega (arith, ints, fits) in
    let digits : length (decimal (suc n)) ≤ 39 = length-decimal-le_wide 39 (suc n) (lit< tt) (omega arith) (omega arith) in
    omega (arith, digits)

-- a number of 8 bits
pub octet_short : (n : ℕ) → n < 256 → length (decimal n) ≤ 3
octet_short n h = length-decimal-le 3 n (lit< tt) (omega arith) (omega arith)

-- a number of 16 bits
pub word_short : (n : ℕ) → n < 2 ^ 16 → length (decimal n) ≤ 5
word_short n h = length-decimal-le 5 n (lit< tt) (omega arith) (omega arith)
