-- The numbers at a place of the octets, big-endian (IEEE 1588-2019).
use Rattle.std.specs.Prelude.{ℕ, ℤ, List, drop}
use Rattle.std.specs.Int.{w16, w64, cast_signed}
use Rattle.byteorder.specs.Endian.{big_number}

-- the number of n octets at a place
abbrev pub number_at : ℕ → ℕ → List ℕ → ℕ
number_at at n octets = big_number n (drop at octets)

-- the signed number of 2 octets at a place
abbrev pub signed_16_at : ℕ → List ℕ → ℤ
signed_16_at at octets = cast_signed w16 (number_at at 2 octets)

-- the signed number of 8 octets at a place
abbrev pub signed_64_at : ℕ → List ℕ → ℤ
signed_64_at at octets = cast_signed w64 (number_at at 8 octets)
