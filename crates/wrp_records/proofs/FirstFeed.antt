-- The first LF, given by two definitions of the first octet.
use Rattle.std.proofs.Common.{◌≡◌, ◌==◌, ℕ, zero, suc, ◌<◌, true, false, Option, None, Some, List, [], ◌∷◌, length, refl, arith}
use Rattle.std.specs.List.{position}
use Rattle.std.proofs.lemmas.Bool.{false_from_ne_true}
use Rattle.std.proofs.lemmas.Bool.Decides.{nat_tests}
use Rattle.memchr.specs.Find.{IsFirstByte, Nowhere, Passes, is_byte}
use Rattle.wrp_records.proofs.Feeds.{feed_at}

place_of : (octets : List ℕ) (k : ℕ) → k < length octets → Nowhere (Passes (is_byte 10) octets) 0 k → Passes (is_byte 10) octets k → feed_at octets ≡ k
place_of [] k high none found = absurd (omega arith)
place_of (octet ∷ octets) zero high none found = let feed : (octet == 10) ≡ true = found in rw feed refl
place_of (octet ∷ octets) (suc k) high none found =
    let other : (octet == 10) ≡ false = false_from_ne_true (octet == 10) (none 0 (omega arith) (omega arith)) in
    let later : feed_at octets ≡ k = place_of octets k (omega arith) (λ j low less. none (suc j) (omega arith) (omega arith)) found in
    rw other (omega (arith, later))

no_place : (octets : List ℕ) → Nowhere (Passes (is_byte 10) octets) 0 (length octets) → feed_at octets ≡ length octets
no_place [] none = refl
no_place (octet ∷ octets) none =
    let other : (octet == 10) ≡ false = false_from_ne_true (octet == 10) (none 0 (omega arith) (omega arith)) in
    let later : feed_at octets ≡ length octets = no_place octets (λ j low less. none (suc j) (omega arith) (omega arith)) in
    rw other (omega (arith, later))

pub first_is : (octets : List ℕ) (found : Option ℕ) → IsFirstByte (is_byte 10) octets found → found ≡ position (λ octet. octet == 10) octets
first_is octets None none = let past : feed_at octets ≡ length octets = no_place octets none in grind (arith, nat_tests, past)
first_is octets (Some k) first =
    let there : feed_at octets ≡ k = place_of octets k first.0.high first.0.before first.1 in
    let within : k < length octets = first.0.high in
    grind (arith, nat_tests, there, within)
