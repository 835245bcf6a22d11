-- Words: numbers are words, a line of words is whole, and a line that begins with words has no other words there.
use Rattle.std.proofs.Common.{◌≡◌, ◌∙◌, refl, ap, ap₂, sym, subst, ℕ, zero, suc, ℤ, pos, negsuc, ◌+◌, ◌≤◌, ◌/◌, ◌%◌, ◌==◌, not, nat_lt, Bool, true, false, if◌then◌else◌, List, [], ◌∷◌, ◌++◌, append_assoc, codes, arith}
use Rattle.std.specs.List.{AllByRecursion, list_all}
use Rattle.std.specs.Fmt.{decimal, digits, digits_onto, digit_glyph, signed_decimal}
use Rattle.std.proofs.lemmas.Bool.{and_from, and_parts, ne_eqb, not-true}
use Rattle.wrp_base.specs.declared.fault.TraceFault.{TraceFault}
use Rattle.wrp_base.specs.declared.fault.TraceFault.TheVariants.{Fields, Kind, Number, Name, Memory}
use Rattle.wrp_records.specs.Lines.{HasNoFeed, IsWhole, lines_of}
use Rattle.wrp_records.specs.Refusals.{bad_trace_line, code_of, field_of, name_of}
use Rattle.wrp_records.specs.Stream.{large_line}
use Rattle.wrp_records.specs.Words.{IsWord, is_word_octet, line_of}
use Rattle.wrp_records.proofs.Feeds.{lines_of-whole, no_feed-append}

-- Numbers

glyph_least : (b : Bool) (d : ℕ) → 33 ≤ (if b then 48 + d else 87 + d)
glyph_least true d = omega arith
glyph_least false d = omega arith

either_passes : (p : ℕ → Bool) (b : Bool) (one other : List ℕ) → list_all p one ≡ true → list_all p other ≡ true → list_all p (if b then one else other) ≡ true
either_passes p true one other h k = h
either_passes p false one other h k = k

digits_pass : (p : ℕ → Bool) → ((c : ℕ) → 33 ≤ c → p c ≡ true) → (k n : ℕ) (acc : List ℕ) → list_all p acc ≡ true → list_all p (digits_onto k 10 false n acc) ≡ true
digits_pass p high zero n acc h = h
digits_pass p high (suc k) n acc h =
    let glyph : ℕ = digit_glyph false (n % 10) in
    let more : list_all p (glyph ∷ acc) ≡ true = and_from (p glyph) (list_all p acc) (high glyph (glyph_least (nat_lt (n % 10) 10) (n % 10))) h in
    either_passes p (n / 10 == 0) (glyph ∷ acc) (digits_onto k 10 false (n / 10) (glyph ∷ acc)) more (digits_pass p high k (n / 10) (glyph ∷ acc) more)

-- if all octets from 33 on pass a test, the octets of a number pass it
pub decimal_passes : (p : ℕ → Bool) → ((c : ℕ) → 33 ≤ c → p c ≡ true) → (n : ℕ) → list_all p (decimal n) ≡ true
unfolding digits
decimal_passes p high n = digits_pass p high 64 n [] refl

-- also if the number is below 0
pub signed_passes : (p : ℕ → Bool) → ((c : ℕ) → 33 ≤ c → p c ≡ true) → (z : ℤ) → list_all p (signed_decimal z) ≡ true
signed_passes p high (pos n) = decimal_passes p high n
signed_passes p high (negsuc n) = and_from (p 45) (list_all p (decimal (suc n))) (high 45 (omega arith)) (decimal_passes p high (suc n))

-- Words

pub word_octet : (c : ℕ) → 33 ≤ c → is_word_octet c ≡ true
word_octet c least = rw (ne_eqb c 32 (λ e. omega (arith, least, e)), ne_eqb c 10 (λ e. omega (arith, least, e))) refl

pub decimal_word : (n : ℕ) → IsWord (decimal n)
decimal_word n = decimal_passes is_word_octet word_octet n

pub signed_word : (z : ℤ) → IsWord (signed_decimal z)
signed_word z = signed_passes is_word_octet word_octet z

pub onto_word : (c : ℕ) (cs : List ℕ) → is_word_octet c ≡ true → IsWord cs → IsWord (c ∷ cs)
onto_word c cs h k = and_from (is_word_octet c) (list_all is_word_octet cs) h k

-- whichever of two words is chosen is a word
pub either_word : (b : Bool) (one other : List ℕ) → IsWord one → IsWord other → IsWord (if b then one else other)
either_word b one other h k = either_passes is_word_octet b one other h k

pub word_plain : (octets : List ℕ) → IsWord octets → HasNoFeed octets
word_plain [] h = tt
word_plain (c ∷ cs) h =
    let both = and_parts (is_word_octet c) (list_all is_word_octet cs) h in
    (not-true (c == 10) (and_parts (not (c == 32)) (not (c == 10)) both.0).1, word_plain cs both.1)

-- Lines of words

-- each of them is a word
abbrev pub AreWords : List (List ℕ) → Type 0
AreWords words = AllByRecursion IsWord words

-- a line of words has one LF, at its end
pub line_whole : (words : List (List ℕ)) → AreWords words → IsWhole (line_of words)
line_whole [] h = record { front = []; is = refl; plain = tt }
line_whole (word ∷ []) h = record { front = word; is = refl; plain = word_plain word h.0 }
line_whole (word ∷ other ∷ words) h =
    let rest : IsWhole (line_of (other ∷ words)) = line_whole (other ∷ words) h.1 in
    record {
      front = word ++ 32 ∷ rest.front;
      is = ap (λ (l : List ℕ). word ++ 32 ∷ l) rest.is ∙ sym (append_assoc word (32 ∷ rest.front) (10 ∷ []));
      plain = no_feed-append word (32 ∷ rest.front) (word_plain word h.0) (refl, rest.plain);
    }

fault_word : (fault : TraceFault) → IsWord (name_of fault)
fault_word Fields = refl
fault_word Kind = refl
fault_word (Number field) = refl
fault_word (Name field) = refl
fault_word (Memory e) = refl

-- so has the line that names a record that is refused
pub trace_line_whole : (number : ℕ) (fault : TraceFault) → IsWhole (bad_trace_line number fault)
trace_line_whole number fault =
    line_whole (codes "bad-trace" ∷ decimal number ∷ decimal (code_of fault) ∷ name_of fault ∷ decimal (field_of fault) ∷ [])
    (refl, (decimal_word number, (decimal_word (code_of fault), (fault_word fault, (decimal_word (field_of fault), tt)))))

pub large_line_whole : (number : ℕ) → IsWhole (large_line number)
large_line_whole number = line_whole (codes "too-large" ∷ decimal number ∷ []) (refl, (decimal_word number, tt))

-- what holds of a whole line, and of each line after it, holds of all
pub line_in_front : (P : List ℕ → Type 0) (line rest : List ℕ) → IsWhole line → P line → AllByRecursion P (lines_of rest) → AllByRecursion P (lines_of (line ++ rest))
line_in_front P line rest whole h k =
    subst (AllByRecursion P) (sym (ap (λ (l : List ℕ). lines_of (l ++ rest)) whole.is ∙ lines_of-whole whole.front rest whole.plain))
    (subst P whole.is h, k)

-- The words of a line

-- an octet after a word
abbrev IsGap : ℕ → Type 0
IsGap c = is_word_octet c ≡ false

no_gap : (c : ℕ) → is_word_octet c ≡ true → IsGap c → ⊥
no_gap c h k = cc

-- two words are the same, and so are the octets after them and what follows
pub record SameWord (w v : List ℕ) (c d : ℕ) (r q : List ℕ) : Type 0 where
  pub word : w ≡ v
  pub gap : c ≡ d
  pub rest : r ≡ q

-- a text begins with one word only
pub first_word : (w v : List ℕ) (c d : ℕ) (r q : List ℕ) → IsWord w → IsWord v → IsGap c → IsGap d → w ++ c ∷ r ≡ v ++ d ∷ q → SameWord w v c d r q
first_word [] [] c d r q h k g f e = record { word = refl; gap = cc; rest = cc }
first_word [] (y ∷ v) c d r q h k g f e =
    let same : c ≡ y = cc in
    absurd (no_gap y (and_parts (is_word_octet y) (list_all is_word_octet v) k).0 (subst IsGap same g))
first_word (x ∷ w) [] c d r q h k g f e =
    let same : x ≡ d = cc in
    absurd (no_gap x (and_parts (is_word_octet x) (list_all is_word_octet w) h).0 (subst IsGap (sym same) f))
first_word (x ∷ w) (y ∷ v) c d r q h k g f e =
    let same : x ≡ y = cc in
    let tail : w ++ c ∷ r ≡ v ++ d ∷ q = cc in
    let it : SameWord w v c d r q =
    first_word w v c d r q (and_parts (is_word_octet x) (list_all is_word_octet w) h).1 (and_parts (is_word_octet y) (list_all is_word_octet v) k).1 g f tail in
    record { word = ap₂ (λ (a : ℕ) (l : List ℕ). a ∷ l) same it.word; gap = it.gap; rest = it.rest }

-- the first octet of a text, and what follows it
abbrev pub head_of : List ℕ → ℕ
head_of [] = 0
head_of (c ∷ cs) = c

abbrev pub rest_of : List ℕ → List ℕ
rest_of [] = []
rest_of (c ∷ cs) = cs
