-- Octets in a line: two hex digits for each, of either case (this project's profile).
use Rattle.std.specs.Prelude.{ℕ, ◌==◌, nat_le, if◌then◌else◌, Option, None, Some, option_map, option_and_then, List, length}
use Rattle.std.specs.Result.{result_ok}
use Rattle.arrayvec.specs.ArrayVec.{ArrayVec}
use Rattle.byteorder.specs.Endian.{big_number}
use Rattle.hex.specs.Hex.{decode_of}

-- the octets, if they are at most 256
abbrev pub few : List ℕ → Option (List ℕ)
few octets = if nat_le (length octets) 256 then Some octets else None

-- the octets of HEX: two digits for each, at most 256
abbrev pub octets_of : List ℕ → Option (List ℕ)
octets_of text = option_and_then few (result_ok (decode_of text))

-- the same as a frame
abbrev pub frame_of : List ℕ → Option (ArrayVec ℕ)
frame_of text = option_map (λ octets. record { items = octets }) (octets_of text)

-- the number of BITS: the 16 digits of eight octets, the most significant first
abbrev pub bits_of : List ℕ → Option ℕ
bits_of text =
    option_and_then (λ octets. if length octets == 8 then Some (big_number 8 octets) else None)
    (octets_of text)
