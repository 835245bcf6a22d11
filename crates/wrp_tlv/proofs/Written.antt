-- Octets from which numbers are read are the octets as which these numbers are sent.
use Rattle.std.proofs.Common.{◌≡◌, ◌<◌, ◌≤◌, ◌+◌, ◌*◌, ◌^◌, ◌%◌, ℕ, zero, suc, List, [], ◌∷◌, ◌++◌, length, drop, refl, sym, ap, ◌∙◌, arith, length-drop}
use Rattle.std.specs.Int.{byte_at}
use Rattle.std.proofs.Math.Nat.{pow-succ', mul_assoc, add-mul}
use Rattle.std.proofs.lemmas.Nat.{div-mul-add, mod-mul-add}
use Rattle.std.proofs.lemmas.List.{drop-drop, drop_all, get_or-drop}
use Rattle.byteorder.specs.Endian.{big_from, big_bytes}
use Rattle.byteorder.specs.Numbers.{big_from-cons, big_from-lt}
use Rattle.wrp_base.specs.Octets.{AreOctets}
use Rattle.wrp_tlv.specs.Octets.{number_at}

-- an octet of a number, by what is above and below it
octet_of : (k high x low : ℕ) → low < 256 ^ k → x < 256 → byte_at k ((high * 256 + x) * 256 ^ k + low) ≡ x
octet_of zero high x low below small = omega arith
octet_of (suc k) high x low below small =
    ap (λ n. n % 256) (div-mul-add (high * 256 + x) (256 ^ suc k) low below) ∙ mod-mul-add high 256 x small

-- the number in the first n octets is sent as these octets, whatever is above it
written : (n high : ℕ) (octets : List ℕ) → AreOctets octets → n ≤ length octets
    → big_bytes n (high * 256 ^ n + big_from 0 n octets) ++ drop n octets ≡ octets
written zero high octets small long = refl
written (suc n) high [] small long = absurd (omega arith)
written (suc n) high (x ∷ xs) small long =
    let rest : big_from 1 n (x ∷ xs) ≡ big_from 0 n xs = big_from-cons 0 n x xs in
    let low = big_from-lt 0 n xs (λ k. small (suc k)) in
    let split : high * 256 ^ suc n + (x * 256 ^ n + big_from 1 n (x ∷ xs)) ≡ (high * 256 + x) * 256 ^ n + big_from 0 n xs =
    let apart : high * 256 ^ suc n ≡ high * 256 * 256 ^ n = ap (λ p. high * p) (pow-succ' 256 n) ∙ sym (mul_assoc high 256 (256 ^ n)) in
    omega (arith, add-mul (high * 256) x (256 ^ n)) in
    let fewer : n ≤ length xs = omega arith in
    rw split
    (ap (λ o. o ∷ (big_bytes n ((high * 256 + x) * 256 ^ n + big_from 0 n xs) ++ drop n xs)) (octet_of n high x (big_from 0 n xs) low (small 0))
    ∙ ap (λ l. x ∷ l) (written n (high * 256 + x) xs (λ k. small (suc k)) fewer))

-- what comes from a place on is the number there as it is sent, and what comes after it
from_place : (at n : ℕ) (value : List ℕ) → AreOctets value → at + n ≤ length value
    → drop at value ≡ big_bytes n (number_at at n value) ++ drop (at + n) value
from_place at n value octets within =
    let long : n ≤ length (drop at value) = omega (arith, length-drop at value) in
    let none_above : number_at at n value ≡ 0 * 256 ^ n + number_at at n value = omega arith in
    sym (ap (λ x. big_bytes n x ++ drop n (drop at value)) none_above
    ∙ written n 0 (drop at value) (λ k. let octet = octets (at + k) in rw (get_or-drop at value k 0) octet) long)
    ∙ ap (λ l. big_bytes n (number_at at n value) ++ l) (drop-drop n at value)

-- the octets of numbers of these widths
abbrev pub width_of : List ℕ → ℕ
width_of [] = 0
width_of (n ∷ widths) = n + width_of widths

-- the numbers of these widths from a place on, one after another, as they are sent
abbrev pub sent_from : ℕ → List ℕ → List ℕ → List ℕ
sent_from at [] value = []
sent_from at (n ∷ widths) value = big_bytes n (number_at at n value) ++ sent_from (at + n) widths value

-- if their widths are all that is left, they are all that is there
pub all_sent : (at : ℕ) (widths : List ℕ) (value : List ℕ) → AreOctets value → length value ≡ at + width_of widths
    → drop at value ≡ sent_from at widths value
all_sent at [] value octets long = drop_all at value (omega arith)
all_sent at (n ∷ widths) value octets long =
    from_place at n value octets (omega arith)
    ∙ ap (λ l. big_bytes n (number_at at n value) ++ l) (all_sent (at + n) widths value octets (omega arith))
