-- Octets and bits that were printed read back.
use Rattle.std.proofs.Common.{◌≡◌, ℕ, zero, suc, ◌*◌, ◌/◌, ◌%◌, ◌<◌, ◌≤◌, ◌^◌, ◌==◌, Bool, true, false, if◌then◌else◌, nat_le, List, [], None, Some, Result, Ok, Err, length, refl, ap, subst, arith, Option}
use Rattle.std.specs.Prelude.{option_map, option_and_then}
use Rattle.std.specs.Result.{is_err, result_ok}
use Rattle.std.specs.Int.{byte_at, bytes_high_first}
use Rattle.std.proofs.lemmas.Bool.{le-leb, lt-leb}
use Rattle.arrayvec.specs.ArrayVec.{ArrayVec}
use Rattle.byteorder.specs.Endian.{big_bytes, big_number}
use Rattle.byteorder.specs.Numbers.{big_number-reads_back}
use Rattle.hex.specs.Hex.{decode_of, decode_pairs, decode_sized, encode_lower, IsBytes}
use Rattle.hex.specs.declared.error.FromHexError.{FromHexError}
use Rattle.hex.specs.declared.error.FromHexError.TheVariants.{InvalidStringLength, OddLength}
use Rattle.hex.proofs.HexLemmas.{decode_of-encode_lower, decode_of-ok}
use Rattle.wrp_trace.specs.Digits.{few, octets_of, frame_of, bits_of}
use Rattle.wrp_trace.specs.Printing.{bits_text}

abbrev as_frame : List ℕ → ArrayVec ℕ
as_frame octets = record { items = octets }

long_in : (text : List ℕ) (read : Result (List ℕ) FromHexError) → decode_of text ≡ read → 256 < length text / 2
    → option_map as_frame (option_and_then few (result_ok read)) ≡ None
long_in text (Err fault) e long = refl
long_in text (Ok octets) e long =
    let size : length text ≡ 2 * length octets = (decode_of-ok text octets e).2 in
    let more : 256 < length octets = omega arith in
    rw (lt-leb (length octets) 256 more) refl

-- a text of more than twice 256 digits is not the hex of a frame
pub too_long : (text : List ℕ) → 256 < length text / 2 → frame_of text ≡ None
too_long text long = long_in text (decode_of text) refl long

half_of : (n m : ℕ) → n ≡ 2 * m → n / 2 ≡ m
half_of n m size = omega arith

differs : (n m : ℕ) → (n / 2 == 8) ≡ false → n ≡ 2 * m → (m == 8) ≡ false
differs n m e size = subst (λ (k : ℕ). (k == 8) ≡ false) (half_of n m size) e

-- a number of octets other than eight
of_few : (octets : List ℕ) (b : Bool) → (length octets == 8) ≡ false →
    option_and_then (λ (octets : List ℕ). if length octets == 8 then Some (big_number 8 octets) else None) (if b then Some octets else None) ≡ None
of_few octets true e = ap (λ (b : Bool). if b then Some (big_number 8 octets) else None) e
of_few octets false e = refl

of_size : (text octets : List ℕ) → (length text / 2 == 8) ≡ false → length text ≡ 2 * length octets →
    option_and_then (λ octets. if length octets == 8 then Some (big_number 8 octets) else None) (few octets) ≡ None
of_size text octets e size = of_few octets (nat_le (length octets) 256) (differs (length text) (length octets) e size)

-- the number of some octets, if there are eight
abbrev as_eight : List ℕ → Option ℕ
as_eight octets = if length octets == 8 then Some (big_number 8 octets) else None

sized_in : (text : List ℕ) (odd eight : Bool) (read : Result (List ℕ) FromHexError) → (length text / 2 == 8) ≡ eight →
    decode_of text ≡ (if odd then Err OddLength else read) →
    is_err (if odd then Err OddLength else (if eight then read else Err InvalidStringLength)) ≡ true →
    option_and_then as_eight (option_and_then few (result_ok (if odd then Err OddLength else read))) ≡ None
sized_in text true eight read e whole err = refl
sized_in text false eight (Err fault) e whole err = refl
sized_in text false true (Ok octets) e whole err = absurd (let f : false ≡ true = err in cc)
sized_in text false false (Ok octets) e whole err = of_size text octets e (decode_of-ok text octets whole).2

-- a text that does not fit in eight octets, or that has something other than digits, is no BITS
pub not_eight : (text : List ℕ) → is_err (decode_sized text 8) ≡ true → bits_of text ≡ None
not_eight text err = sized_in text (length text % 2 == 1) (length text / 2 == 8) (decode_pairs 0 text) refl refl err

octets_back : (octets : List ℕ) → IsBytes octets → length octets ≤ 256 → octets_of (encode_lower octets) ≡ Some octets
octets_back octets fit few = rw (decode_of-encode_lower octets fit, le-leb (length octets) 256 few) refl

pub frame_back : (frame : ArrayVec ℕ) → IsBytes frame.items → length frame.items ≤ 256 → frame_of (encode_lower frame.items) ≡ Some frame
frame_back frame fit few = rw (octets_back frame.items fit few) refl

pub octet_small : (i x : ℕ) → byte_at i x < 256
octet_small zero x = omega arith
octet_small (suc i) x = omega arith

-- the octets of a number are below 256
pub number_octets : (n x : ℕ) → IsBytes (bytes_high_first n x)
number_octets zero x i = omega arith
number_octets (suc n) x zero = octet_small n x
number_octets (suc n) x (suc i) = number_octets n x i

pub bits_back : (bits : ℕ) → bits < 2 ^ 64 → bits_of (bits_text bits) ≡ Some bits
bits_back bits small =
    let read = big_number-reads_back 8 bits [] (omega arith) in
    rw (octets_back (big_bytes 8 bits) (number_octets 8 bits) (omega arith), read) refl
