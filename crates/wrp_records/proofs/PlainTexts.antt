-- Lines of a plain text: what each says is plain, unless it is empty.
use Rattle.std.proofs.Common.{◌≡◌, inl, inr, ◌==◌, ℕ, zero, suc, ◌+◌, ◌<◌, true, false, List, [], ◌∷◌, ◌++◌, length, take, refl, sym, ap, ◌∙◌, subst, length-append, arith}
use Rattle.std.specs.List.{AllByRecursion}
use Rattle.std.specs.Str.{IsAscii}
use Rattle.std.proofs.lemmas.List.{append_cancel_right}
use Rattle.std.proofs.lemmas.Bool.{cases_Bool}
use Rattle.memchr.specs.Find.{Nowhere, Passes, is_byte2}
use Rattle.wrp_fields.specs.Lines.{IsPlainOctet, IsLine}
use Rattle.wrp_records.specs.Lines.{content_of, IsPlainText, HasNoFeed, IsWhole}
use Rattle.wrp_records.proofs.LineEnds.{line_ends}

-- an octet that is not one of 34 and 13 is neither of them
neither : (octet : ℕ) → (is_byte2 34 13 octet ≡ true → ⊥) → ((octet == 34) ≡ false) × ((octet == 13) ≡ false)
neither octet other = elim (cases_Bool (octet == 34)) [
  | inl quote ↦ absurd (other (rw quote refl))
  | inr no_quote ↦ elim (cases_Bool (octet == 13)) [
    | inl return ↦ absurd (other (rw (no_quote, return) refl))
    | inr no_return ↦ (no_quote, no_return)
  ]
]

-- octets below 128, none of which is a quotation mark or CR
pub all_plain : (octets : List ℕ) → IsAscii octets → Nowhere (Passes (is_byte2 34 13) octets) 0 (length octets) → IsPlainText octets
all_plain [] small none = tt
all_plain (octet ∷ octets) small none =
    let first = neither octet (none 0 (omega arith) (omega arith)) in
    ((first.0, first.1, small 0), all_plain octets (λ i. small (suc i)) (λ k low high. none (suc k) (omega arith) (omega arith)))

-- the first octets of a plain text
pub front_plain : (octets : List ℕ) (size : ℕ) → IsPlainText octets → IsPlainText (take size octets)
front_plain octets zero text = tt
front_plain [] (suc size) text = tt
front_plain (octet ∷ octets) (suc size) text = (text.0, front_plain octets size text.1)

-- each part of a plain text
parts_plain : (front back : List ℕ) → IsPlainText (front ++ back) → IsPlainText front × IsPlainText back
parts_plain [] back text = (tt, text)
parts_plain (octet ∷ octets) back text = let parts = parts_plain octets back text.1 in ((text.0, parts.0), parts.1)

-- octets of a plain text without an LF
octets_plain : (octets : List ℕ) → IsPlainText octets → HasNoFeed octets → AllByRecursion IsPlainOctet octets
octets_plain [] text plain = tt
octets_plain (octet ∷ octets) text plain = ((text.0.0, text.0.1, plain.0, text.0.2), octets_plain octets text.1 plain.1)

some_octet : (octets : List ℕ) → 0 < length octets → octets ≡ [] → ⊥
some_octet octets some none = let size : length octets ≡ 0 = ap length none in omega (arith, some, size)

-- what a whole line says if it consists of these octets and an LF
said_plain : (line said : List ℕ) → IsWhole line → IsPlainText line → 1 < length line → line ≡ said ++ 10 ∷ [] → IsLine said
said_plain line said whole text long is =
    let same : whole.front ≡ said = append_cancel_right whole.front said (10 ∷ []) (sym whole.is ∙ is) in
    let parts = parts_plain said (10 ∷ []) (subst IsPlainText is text) in
    let size : length line ≡ length said + 1 = ap length is ∙ length-append said (10 ∷ []) in
    (some_octet said (omega (arith, long, size)), octets_plain said parts.0 (subst HasNoFeed same whole.plain))

-- a plain text contains no CR
no_return : (line said : List ℕ) → IsPlainText line → line ≡ said ++ 13 ∷ 10 ∷ [] → ⊥
no_return line said text is =
    let parts = parts_plain said (13 ∷ 10 ∷ []) (subst IsPlainText is text) in
    let return : (13 == 13) ≡ false = parts.1.0.1 in cc return

-- a whole line of a plain text says something plain, unless it is an LF alone
pub long_is_plain : (line : List ℕ) → IsWhole line → IsPlainText line → 1 < length line → IsLine (content_of line)
long_is_plain line whole text long = elim (line_ends line whole) [
  | inl feed ↦ said_plain line (content_of line) whole text long feed
  | inr both ↦ absurd (no_return line (content_of line) text both)
]
