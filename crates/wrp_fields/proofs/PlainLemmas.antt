-- A line is plain if and only if it can be split.
use Rattle.std.proofs.Common.{◌≡◌, ◌↔◌, ◌&&◌, not, ℕ, List, [], ◌∷◌, Bool, true, false, refl, sym}
use Rattle.std.specs.Prelude.{◌==◌, nat_lt, IsTrue}
use Rattle.std.specs.List.{list_all, AllByRecursion}
use Rattle.std.proofs.lemmas.Bool.{lt-ltb, ltb-true, not-true, and_parts, and_from, false_from_ne_true}
use Rattle.wrp_fields.specs.Block.{StartsPlain}
use Rattle.wrp_fields.specs.Lines.{IsPlainOctet, IsLine}
use Rattle.wrp_fields.specs.Reading.{is_plain_octet, is_plain}

pub octet_passes : (c : ℕ) → IsPlainOctet c → is_plain_octet c ≡ true
octet_passes c (no_quote, no_return, no_feed, small) = rw (no_quote, no_return, no_feed, lt-ltb c 128 small) refl

pub octet_is : (c : ℕ) → is_plain_octet c ≡ true → IsPlainOctet c
octet_is c is =
    let a = and_parts (not (c == 34)) (not (c == 13) && (not (c == 10) && nat_lt c 128)) is in
    let b = and_parts (not (c == 13)) (not (c == 10) && nat_lt c 128) a.1 in
    let d = and_parts (not (c == 10)) (nat_lt c 128) b.1 in
    (not-true (c == 34) a.0, not-true (c == 13) b.0, not-true (c == 10) d.0, ltb-true c 128 d.1)

pub octets_pass : (line : List ℕ) → AllByRecursion IsPlainOctet line → list_all is_plain_octet line ≡ true
octets_pass [] all = refl
octets_pass (c ∷ cs) all = and_from (is_plain_octet c) (list_all is_plain_octet cs) (octet_passes c all.0) (octets_pass cs all.1)

pub octets_are : (line : List ℕ) → list_all is_plain_octet line ≡ true → AllByRecursion IsPlainOctet line
octets_are [] all = tt
octets_are (c ∷ cs) all =
    let both = and_parts (is_plain_octet c) (list_all is_plain_octet cs) all in
    (octet_is c both.0, octets_are cs both.1)

pub line_passes : (line : List ℕ) → IsLine line → is_plain line ≡ true
line_passes [] is = absurd (is.0 refl)
line_passes (c ∷ cs) is = octets_pass (c ∷ cs) is.1

-- a line that passes the test can be split
pub line_is : (line : List ℕ) → is_plain line ≡ true → IsLine line
line_is [] is = cc is
line_is (c ∷ cs) is = ((λ e. cc e), octets_are (c ∷ cs) is)

-- the two tests agree
pub same_test : (line : List ℕ) (b : Bool) → (IsTrue b ↔ IsLine line) → b ≡ is_plain line
same_test line true h = sym (line_passes line (h.0 refl))
same_test line false h = sym (false_from_ne_true (is_plain line) (λ e. cc (h.1 (line_is line e))))

-- a plain line begins with an octet below 128
pub starts_plain : (line : List ℕ) → IsLine line → StartsPlain line
starts_plain [] is = tt
starts_plain (c ∷ cs) is = is.1.0.3
