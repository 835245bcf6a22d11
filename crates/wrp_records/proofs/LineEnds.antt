-- How a whole line ends, and how lines are split.
use Rattle.std.proofs.Common.{◌≡◌, ◌⊎◌, inl, inr, ◌==◌, ℕ, ◌+◌, ◌-◌, ◌<◌, ◌≤◌, min, List, [], ◌∷◌, ◌++◌, reverse, length, take, drop, refl, sym, ap, ◌∙◌, subst, false, append_assoc, length-append, length-take, append-nil, arith}
use Rattle.std.proofs.lemmas.List.{reverse-append, reverse-reverse, take-append-drop, drop-drop, length-drop}
use Rattle.std.proofs.lemmas.Bool.{cases_Bool, eqb-true}
use Rattle.wrp_fields.specs.Block.{StartsPlain}
use Rattle.wrp_fields.specs.Lines.{IsLine}
use Rattle.wrp_records.specs.Lines.{content_of, without_end, without_return, HasNoFeed, IsWhole}
use Rattle.wrp_records.specs.Stream.{IsWithin}
use Rattle.wrp_records.proofs.Feeds.{feed_at}

-- what a whole line says, followed by an LF, or by a CR and an LF
abbrev pub Ends : List ℕ → List ℕ → Type 0
Ends line said = (line ≡ said ++ 10 ∷ []) ⊎ (line ≡ said ++ 13 ∷ 10 ∷ [])

reverse_more : (c : ℕ) (cs : List ℕ) → reverse (c ∷ cs) ≡ reverse cs ++ c ∷ []
reverse_more c cs = reverse-append (c ∷ []) cs

ends_by : (back front : List ℕ) → reverse back ≡ front → Ends (front ++ 10 ∷ []) (reverse (without_return back))
ends_by [] front is = inl (ap (λ (l : List ℕ). l ++ 10 ∷ []) (sym is))
ends_by (c ∷ cs) front is = elim (cases_Bool (c == 13)) [
  | inl same ↦
      let all : front ≡ reverse cs ++ 13 ∷ [] = sym is ∙ reverse_more c cs ∙ ap (λ n. reverse cs ++ n ∷ []) (eqb-true c 13 same) in
      rw same (inr (ap (λ (l : List ℕ). l ++ 10 ∷ []) all ∙ append_assoc (reverse cs) (13 ∷ []) (10 ∷ [])))
  | inr other ↦ rw other (inl (ap (λ (l : List ℕ). l ++ 10 ∷ []) (sym is)))
]

pub content_whole : (front : List ℕ) → content_of (front ++ 10 ∷ []) ≡ reverse (without_return (reverse front))
content_whole front = rw (reverse-append front (10 ∷ [])) refl

pub line_ends : (line : List ℕ) → IsWhole line → Ends line (content_of line)
line_ends line whole =
    let said : content_of line ≡ reverse (without_return (reverse whole.front)) = ap content_of whole.is ∙ content_whole whole.front in
    let ends = ends_by (reverse whole.front) whole.front (reverse-reverse whole.front) in
    subst (λ (l : List ℕ). Ends l (content_of line)) (sym whole.is) (subst (λ (s : List ℕ). Ends (whole.front ++ 10 ∷ []) s) (sym said) ends)

-- a plain line begins with an octet below 128
starts_plain : (line : List ℕ) → IsLine line → StartsPlain line
starts_plain [] is = tt
starts_plain (c ∷ cs) is = is.1.0.3

-- so do octets that begin with what such a line says
starts_said : (said rest : List ℕ) → IsLine said → StartsPlain (said ++ rest)
starts_said [] rest is = absurd (is.0 refl)
starts_said (c ∷ cs) rest is = is.1.0.3

-- the last of some octets is no LF if none of them is
last_no_feed : (front : List ℕ) (octet : ℕ) → HasNoFeed (front ++ octet ∷ []) → (octet == 10) ≡ false
last_no_feed [] octet plain = plain.0
last_no_feed (x ∷ front) octet plain = last_no_feed front octet plain.1

no_end : (back : List ℕ) → HasNoFeed (reverse back) → without_end back ≡ back
no_end [] plain = refl
no_end (c ∷ cs) plain =
    let other : (c == 10) ≡ false = last_no_feed (reverse cs) c (subst HasNoFeed (reverse_more c cs) plain) in
    rw other refl

-- a line without an LF says all of its octets
content_open : (line : List ℕ) → HasNoFeed line → content_of line ≡ line
content_open line plain =
    ap reverse (no_end (reverse line) (subst HasNoFeed (sym (reverse-reverse line)) plain)) ∙ reverse-reverse line

-- a line is whole, or has no LF and nothing follows it
abbrev pub IsFirst : List ℕ → List ℕ → Type 0
IsFirst line octets = IsWhole line ⊎ (HasNoFeed line × (octets ≡ []))

-- such a line with what follows: what it says, how it ends, and what is left
abbrev pub Begins : List ℕ → List ℕ → Type 0
Begins line octets =
    (line ++ octets ≡ content_of line ++ (10 ∷ octets))
    ⊎ ((line ++ octets ≡ content_of line ++ (13 ∷ 10 ∷ octets)) ⊎ ((line ++ octets ≡ content_of line) × (octets ≡ [])))

pub begins_by : (line octets : List ℕ) → IsFirst line octets → Begins line octets
begins_by line octets (inl whole) = elim (line_ends line whole) [
  | inl feed ↦ inl (ap (λ (l : List ℕ). l ++ octets) feed ∙ append_assoc (content_of line) (10 ∷ []) octets)
  | inr both ↦ inr (inl (ap (λ (l : List ℕ). l ++ octets) both ∙ append_assoc (content_of line) (13 ∷ 10 ∷ []) octets))
]
begins_by line octets (inr open_line) =
    inr (inr (ap (λ (l : List ℕ). line ++ l) open_line.1 ∙ append-nil line ∙ sym (content_open line open_line.0), open_line.1))

-- octets that begin with a plain line begin with an octet below 128
pub starts_first : (line octets : List ℕ) → IsFirst line octets → IsLine (content_of line) → StartsPlain (line ++ octets)
starts_first line octets first is = elim (begins_by line octets first) [
  | inl feed ↦ subst StartsPlain (sym feed) (starts_said (content_of line) (10 ∷ octets) is)
  | inr rest ↦ elim rest [
    | inl both ↦ subst StartsPlain (sym both) (starts_said (content_of line) (13 ∷ 10 ∷ octets) is)
    | inr last ↦ subst StartsPlain (sym last.0) (starts_plain (content_of line) is)
  ]
]

-- how many octets come before the LF of a whole line
feed_behind : (front : List ℕ) → HasNoFeed front → feed_at (front ++ 10 ∷ []) ≡ length front
feed_behind [] plain = refl
feed_behind (octet ∷ octets) plain =
    let other : (octet == 10) ≡ false = plain.0 in
    let later : feed_at (octets ++ 10 ∷ []) ≡ length octets = feed_behind octets plain.1 in
    simp (other, later) (omega arith)

-- a whole line of at most 8193 octets is no larger than a line may be
pub whole_within : (line : List ℕ) → IsWhole line → length line ≤ 8_193 → IsWithin line
whole_within line whole small =
    let size : length line ≡ length whole.front + 1 = ap length whole.is ∙ length-append whole.front (10 ∷ []) in
    let before : feed_at line ≡ length whole.front = ap feed_at whole.is ∙ feed_behind whole.front whole.plain in
    omega arith

-- the first octets, and the octets after them
pub front_is : (octets : List ℕ) (size : ℕ) → size ≤ length octets → octets ≡ take size octets ++ drop (length (take size octets)) octets
front_is octets size within =
    let short : length (take size octets) ≡ min size (length octets) = length-take size octets in
    let same : length (take size octets) ≡ size = omega (arith, short, within) in
    sym (take-append-drop size octets) ∙ ap (λ n. take size octets ++ drop n octets) (sym same)

-- so many first octets are no larger than a line may be
pub front_within : (octets : List ℕ) (size : ℕ) → IsWhole (take size octets) → size ≤ 8_193 → IsWithin (take size octets)
front_within octets size whole small =
    let short : length (take size octets) ≡ min size (length octets) = length-take size octets in
    whole_within (take size octets) whole (omega (arith, short, small))

-- the rest after a line of some octets that follow other octets
pub left_behind : (octets left line : List ℕ) (at : ℕ) → left ≡ drop at octets → left ≡ line ++ drop (length line) left → drop (length line) left ≡ drop (at + length line) octets
left_behind octets left line at is parts = ap (drop (length line)) is ∙ drop-drop (length line) at octets

-- the place after the line is within the octets
pub place_behind : (octets left line : List ℕ) (at : ℕ) → at ≤ length octets → left ≡ drop at octets → left ≡ line ++ drop (length line) left → at + length line ≤ length octets
place_behind octets left line at within is parts =
    let size : length left ≡ length line + length (drop (length line) left) = ap length parts ∙ length-append line (drop (length line) left) in
    let whole : length left ≡ length octets - at = ap length is ∙ length-drop at octets in
    omega (arith, size, whole, within)

-- a whole line has an octet
pub whole_size : (line : List ℕ) → IsWhole line → 0 < length line
whole_size line whole = let size : length line ≡ length whole.front + 1 = ap length whole.is ∙ length-append whole.front (10 ∷ []) in omega arith
