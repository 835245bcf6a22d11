-- Lines and their LF.
use Rattle.std.proofs.Common.{◌≡◌, ℕ, ◌+◌, ◌<◌, ◌≤◌, ◌==◌, true, false, None, Some, List, [], ◌∷◌, ◌++◌, length, take, get_or, refl, sym, ap, ◌∙◌, subst, append_assoc, arith}
use Rattle.std.proofs.lemmas.List.{take_more}
use Rattle.std.proofs.lemmas.List.Sums.{passes_at_first}
use Rattle.std.specs.List.{position, position_or_len}
use Rattle.std.proofs.lemmas.Bool.Decides.{nat_tests}
use Rattle.std.proofs.lemmas.Grind.{common_steps}
use Rattle.wrp_records.specs.Lines.{lines_of, HasNoFeed, IsWhole}

-- octets without an LF, one after the other
pub no_feed-append : (xs ys : List ℕ) → HasNoFeed xs → HasNoFeed ys → HasNoFeed (xs ++ ys)
no_feed-append [] ys p q = q
no_feed-append (x ∷ xs) ys p q = (p.0, no_feed-append xs ys p.1 q)

-- where the first LF is
abbrev pub feed_at : List ℕ → ℕ
feed_at octets = position_or_len (λ octet. octet == 10) octets

-- one more is taken with the head
one_more_taken : (n octet : ℕ) (octets : List ℕ) → take (1 + n) (octet ∷ octets) ≡ octet ∷ take n octets
one_more_taken n octet octets = grind (arith, common_steps)

-- the octets before the first LF have none
pub none_before : (octets : List ℕ) → HasNoFeed (take (feed_at octets) octets)
none_before [] = tt
none_before (octet ∷ octets) =
    elim (octet == 10) as (λ b. (octet == 10) ≡ b → HasNoFeed (take (feed_at (octet ∷ octets)) (octet ∷ octets))) [
      | true ↦ λ is. simp is tt
      | false ↦ λ is. let later : HasNoFeed (take (feed_at octets) octets) = none_before octets in simp (is, one_more_taken) (refl, later)
    ] refl

-- if the search finds no LF, there is none
pub none_anywhere : (octets : List ℕ) → position (λ octet. octet == 10) octets ≡ None → HasNoFeed octets
none_anywhere octets none =
    let past : length octets ≤ feed_at octets = grind (arith, nat_tests) in
    let all : take (feed_at octets) octets ≡ octets = grind (arith, common_steps) in
    subst HasNoFeed all (none_before octets)

-- if it finds one, the octets up to and including it are a whole line
pub whole_at : (octets : List ℕ) (at : ℕ) → position (λ octet. octet == 10) octets ≡ Some at → (at + 1 ≤ length octets) × IsWhole (take (at + 1) octets)
whole_at octets at found =
    let there : feed_at octets ≡ at = grind (arith, nat_tests) in
    let within : at < length octets = grind (arith, nat_tests) in
    let passes : get_or octets (feed_at octets) 0 == 10 ≡ true = passes_at_first (λ octet. octet == 10) octets 0 (subst (λ n. n < length octets) (sym there) within) in
    let is_feed : get_or octets at 0 ≡ 10 = let here : get_or octets at 0 == 10 ≡ true = subst (λ n. get_or octets n 0 == 10 ≡ true) there passes in grind (arith, nat_tests, here) in (
      omega arith,
      record {
        front = take at octets;
        is = take_more octets at 0 within ∙ ap (λ o. take at octets ++ o ∷ []) is_feed;
        plain = subst (λ n. HasNoFeed (take n octets)) there (none_before octets);
      },
    )

-- octets without an LF, followed by a whole line
pub whole_behind : (octets line : List ℕ) → HasNoFeed octets → IsWhole line → IsWhole (octets ++ line)
whole_behind octets line plain whole = record {
  front = octets ++ whole.front;
  is = ap (λ l. octets ++ l) whole.is ∙ sym (append_assoc octets whole.front (10 ∷ []));
  plain = no_feed-append octets whole.front plain whole.plain;
}

-- a whole line, and what follows
pub lines_of-whole : (front rest : List ℕ) → HasNoFeed front → lines_of ((front ++ 10 ∷ []) ++ rest) ≡ (front ++ 10 ∷ []) ∷ lines_of rest
lines_of-whole [] rest plain = refl
lines_of-whole (octet ∷ front) rest plain =
    let other : (octet == 10) ≡ false = plain.0 in
    let later : lines_of ((front ++ 10 ∷ []) ++ rest) ≡ (front ++ 10 ∷ []) ∷ lines_of rest = lines_of-whole front rest plain.1 in
    simp (other, later) refl

-- octets without an LF are one line
pub lines_of-open : (octets : List ℕ) → 0 < length octets → HasNoFeed octets → lines_of octets ≡ octets ∷ []
lines_of-open [] some plain = absurd (omega arith)
lines_of-open (octet ∷ []) some plain = let other : (octet == 10) ≡ false = plain.0 in simp other refl
lines_of-open (octet ∷ next ∷ octets) some plain =
    let other : (octet == 10) ≡ false = plain.0 in
    let rest : lines_of (next ∷ octets) ≡ (next ∷ octets) ∷ [] = lines_of-open (next ∷ octets) (omega arith) plain.1 in
    simp (other, rest) refl

-- all octets of a text without an LF count
pub size_plain : (octets : List ℕ) → HasNoFeed octets → feed_at octets ≡ length octets
size_plain [] plain = refl
size_plain (octet ∷ octets) plain =
    let other : (octet == 10) ≡ false = plain.0 in
    let later : feed_at octets ≡ length octets = size_plain octets plain.1 in
    simp (other, later) (omega arith)

-- if the search finds an LF, this many octets come before it
pub size_found : (octets : List ℕ) (at : ℕ) → position (λ octet. octet == 10) octets ≡ Some at → at ≡ feed_at octets
size_found octets at found = grind (arith, nat_tests)
