-- A network text that ends with LF, the line `---` and records are an input of that network text and these records.
use Rattle.std.proofs.Common.{◌≡◌, ◌⊎◌, inl, inr, ◌∙◌, refl, ap, sym, subst, append-nil, ℕ, ◌==◌, true, false, List, [], ◌∷◌, ◌++◌, codes}
use Rattle.std.specs.List.{AllByRecursion, concat}
use Rattle.std.proofs.lemmas.Bool.{cases_Bool, eqb-true, true≢false}
use Rattle.wrp_records.proofs.Feeds.{lines_of-whole}
use Rattle.wrp_records.proofs.Reaching.{lines_behind}
use Rattle.wrp_records.specs.Lines.{HasNoFeed, IsWhole, lines_of, onto}
use Rattle.wrp_asked.specs.Input.{before_separator, behind_separator, is_separator, network_text}
use Rattle.wrp_answer_laws.specs.LoopAgain.{EndsLine, TextWithRecords, with_records}

-- Lines of octets: each is whole, but the last may have no LF

abbrev IsLast : List ℕ → Type 0
IsLast line = IsWhole line ⊎ HasNoFeed line

abbrev AreLines : List (List ℕ) → Type 0
AreLines [] = Unit {0}
AreLines (line ∷ []) = IsLast line
AreLines (line ∷ next ∷ lines) = IsWhole line × AreLines (next ∷ lines)

whole_onto : (octet : ℕ) (line : List ℕ) → (octet == 10) ≡ false → IsWhole line → IsWhole (octet ∷ line)
whole_onto octet line other whole =
    record { front = octet ∷ whole.front; is = ap (λ (l : List ℕ). octet ∷ l) whole.is; plain = (other, whole.plain) }

are_onto : (octet : ℕ) (lines : List (List ℕ)) → (octet == 10) ≡ false → AreLines lines → AreLines (onto octet lines)
are_onto octet [] other are = inr (other, tt)
are_onto octet (line ∷ []) other (inl whole) = inl (whole_onto octet line other whole)
are_onto octet (line ∷ []) other (inr cut) = inr (other, cut)
are_onto octet (line ∷ next ∷ lines) other are = (whole_onto octet line other are.0, are.1)

feed_whole : (octet : ℕ) → (octet == 10) ≡ true → IsWhole (octet ∷ [])
feed_whole octet is = record { front = []; is = ap (λ (n : ℕ). n ∷ []) (eqb-true octet 10 is); plain = tt }

are_behind : (octet : ℕ) (lines : List (List ℕ)) → (octet == 10) ≡ true → AreLines lines → AreLines ((octet ∷ []) ∷ lines)
are_behind octet [] is are = inl (feed_whole octet is)
are_behind octet (line ∷ lines) is are = (feed_whole octet is, are)

are_lines : (octets : List ℕ) → AreLines (lines_of octets)
are_lines [] = tt
are_lines (octet ∷ octets) = elim (cases_Bool (octet == 10)) [
  | inl is ↦ rw is (are_behind octet (lines_of octets) is (are_lines octets))
  | inr other ↦ rw other (are_onto octet (lines_of octets) other (are_lines octets))
]

-- What ends with LF

ends_behind : (front back : List ℕ) → EndsLine (front ++ back) → EndsLine back
ends_behind [] back ends = ends
ends_behind (octet ∷ []) [] ends = tt
ends_behind (octet ∷ []) (next ∷ back) ends = ends
ends_behind (octet ∷ next ∷ front) back ends = ends_behind (next ∷ front) back ends

-- if octets without LF end with LF, there are none
none_cut : (line : List ℕ) → HasNoFeed line → EndsLine line → line ≡ []
none_cut [] cut ends = refl
none_cut (octet ∷ []) cut ends = absurd (true≢false (subst (λ (n : ℕ). (n == 10) ≡ false) ends cut.0))
none_cut (octet ∷ next ∷ octets) cut ends = absurd (let rest : next ∷ octets ≡ [] = none_cut (next ∷ octets) cut.1 ends in cc)

-- The lines before the first that says `---`

record Front (lines : List (List ℕ)) : Type 0 where
  first : List (List ℕ)
  is : before_separator lines ≡ concat first
  whole : AllByRecursion IsWhole first
  none : AllByRecursion (λ line. is_separator line ≡ false) first

no_lines : (lines : List (List ℕ)) → before_separator lines ≡ [] → Front lines
no_lines lines none = record { first = []; is = none; whole = tt; none = tt }

one_more : (line : List ℕ) (lines : List (List ℕ)) → is_separator line ≡ false → IsWhole line → Front lines → Front (line ∷ lines)
one_more line lines other whole front = record {
  first = line ∷ front.first;
  is = rw other (ap (λ (l : List ℕ). line ++ l) front.is);
  whole = (whole, front.whole);
  none = (other, front.none);
}

last_cut : (line : List ℕ) → is_separator line ≡ false → HasNoFeed line → EndsLine (line ++ []) → before_separator (line ∷ []) ≡ []
last_cut line other cut ends = rw other (append-nil line ∙ none_cut line cut (subst EndsLine (append-nil line) ends))

front_more : (line : List ℕ) (lines : List (List ℕ)) → is_separator line ≡ false → AreLines (line ∷ lines) → EndsLine (line ++ before_separator lines)
    → (AreLines lines → EndsLine (before_separator lines) → Front lines) → Front (line ∷ lines)
front_more line [] other (inl whole) ends rest = one_more line [] other whole (no_lines [] refl)
front_more line [] other (inr cut) ends rest = no_lines (line ∷ []) (last_cut line other cut ends)
front_more line (next ∷ lines) other are ends rest =
    one_more line (next ∷ lines) other are.0 (rest are.1 (ends_behind line (before_separator (next ∷ lines)) ends))

front_of : (lines : List (List ℕ)) → AreLines lines → EndsLine (before_separator lines) → Front lines
front_of [] are ends = no_lines [] refl
front_of (line ∷ lines) are ends = elim (cases_Bool (is_separator line)) [
  | inl is ↦ no_lines (line ∷ lines) (rw is refl)
  | inr other ↦
      let more : EndsLine (line ++ before_separator lines) = simp other at ends in
      front_more line lines other are more (front_of lines)
]

-- The line `---` after them

abbrev separator : List ℕ
separator = codes "---" ++ 10 ∷ []

before_is : (first rest : List (List ℕ)) → AllByRecursion (λ line. is_separator line ≡ false) first
    → before_separator (first ++ separator ∷ rest) ≡ concat first
before_is [] rest none = refl
before_is (line ∷ first) rest none = rw none.0 (ap (λ (l : List ℕ). line ++ l) (before_is first rest none.1))

behind_is : (first rest : List (List ℕ)) → AllByRecursion (λ line. is_separator line ≡ false) first → behind_separator (first ++ separator ∷ rest) ≡ rest
behind_is [] rest none = refl
behind_is (line ∷ first) rest none = rw none.0 (behind_is first rest none.1)

pub text_with_records : TextWithRecords
text_with_records input records ends =
    let front : Front (lines_of input) = front_of (lines_of input) (are_lines input) ends in
    let lines : lines_of (with_records (network_text input) records) ≡ front.first ++ separator ∷ lines_of records =
    ap (λ (text : List ℕ). lines_of (text ++ (codes "---" ++ 10 ∷ records))) front.is
    ∙ lines_behind front.first (codes "---" ++ 10 ∷ records) front.whole
    ∙ ap (λ (behind : List (List ℕ)). front.first ++ behind) (lines_of-whole (codes "---") records (refl, (refl, (refl, tt)))) in
    record {
      network = ap before_separator lines ∙ before_is front.first (lines_of records) front.none ∙ sym front.is;
      lines = ap behind_separator lines ∙ behind_is front.first (lines_of records) front.none;
    }
