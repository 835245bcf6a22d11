-- A line is known by its words.
use Rattle.std.proofs.Common.{◌≡◌, ◌∙◌, ap, sym, refl, ℕ, ◌==◌, not, true, false, List, [], ◌∷◌, ◌++◌, append_assoc}
use Rattle.std.specs.List.{AllByRecursion, list_all, slice_split, onto_first}
use Rattle.std.proofs.lemmas.Bool.{and_parts, not-true}
use Rattle.std.proofs.lemmas.List.Splits.{slice_split-cons_no}
use Rattle.wrp_l1sync.specs.LineTheorem.{lines_in, words_in}
use Rattle.wrp_records.specs.Words.{IsWord, is_word_octet, line_of}
use Rattle.wrp_records.proofs.Feeds.{no_feed-append}
use Rattle.wrp_records.proofs.WordLemmas.{AreWords, word_plain}

-- words with a space between two of them
abbrev joined : List (List ℕ) → List ℕ
joined [] = []
joined (word ∷ []) = word
joined (word ∷ words) = word ++ 32 ∷ joined words

line_joined : (words : List (List ℕ)) (rest : List ℕ) → line_of words ++ rest ≡ joined words ++ 10 ∷ rest
line_joined [] rest = refl
line_joined (word ∷ []) rest = append_assoc word (10 ∷ []) rest
line_joined (word ∷ other ∷ words) rest =
    append_assoc word (32 ∷ line_of (other ∷ words)) rest
    ∙ ap (λ (l : List ℕ). word ++ 32 ∷ l) (line_joined (other ∷ words) rest)
    ∙ sym (append_assoc word (32 ∷ joined (other ∷ words)) (10 ∷ rest))

-- no octet is this one
abbrev Lacks : ℕ → List ℕ → Type 0
Lacks octet octets = AllByRecursion (λ (c : ℕ). (c == octet) ≡ false) octets

lacks_space : (octets : List ℕ) → IsWord octets → Lacks 32 octets
lacks_space [] h = tt
lacks_space (c ∷ cs) h =
    let both = and_parts (is_word_octet c) (list_all is_word_octet cs) h in
    (not-true (c == 32) (and_parts (not (c == 32)) (not (c == 10)) both.0).0, lacks_space cs both.1)

joined_lacks : (words : List (List ℕ)) → AreWords words → Lacks 10 (joined words)
joined_lacks [] h = tt
joined_lacks (word ∷ []) h = word_plain word h.0
joined_lacks (word ∷ other ∷ words) h = no_feed-append word (32 ∷ joined (other ∷ words)) (word_plain word h.0) (refl, joined_lacks (other ∷ words) h.1)

-- what comes before an octet is a part
split_at : (octet : ℕ) (octets rest : List ℕ) → Lacks octet octets → (octet == octet) ≡ true →
    slice_split (λ c. c == octet) (octets ++ octet ∷ rest) ≡ octets ∷ slice_split (λ c. c == octet) rest
split_at octet [] rest h same = rw same refl
split_at octet (c ∷ cs) rest h same =
    slice_split-cons_no (λ (d : ℕ). d == octet) c (cs ++ octet ∷ rest) h.0 ∙ ap (onto_first c) (split_at octet cs rest h.1 same)

split_none : (octet : ℕ) (octets : List ℕ) → Lacks octet octets → slice_split (λ c. c == octet) octets ≡ octets ∷ []
split_none octet [] h = refl
split_none octet (c ∷ cs) h =
    slice_split-cons_no (λ (d : ℕ). d == octet) c cs h.0 ∙ ap (onto_first c) (split_none octet cs h.1)

-- a line is the first of the lines that begin with it
pub line_first : (words : List (List ℕ)) (rest : List ℕ) → AreWords words → lines_in (line_of words ++ rest) ≡ joined words ∷ lines_in rest
line_first words rest h =
    ap (λ (l : List ℕ). lines_in l) (line_joined words rest) ∙ split_at 10 (joined words) rest (joined_lacks words h) refl

-- and its words are the ones that it was made of
pub words_joined : (word : List ℕ) (words : List (List ℕ)) → AreWords (word ∷ words) → words_in (joined (word ∷ words)) ≡ word ∷ words
words_joined word [] h = split_none 32 word (lacks_space word h.0)
words_joined word (other ∷ words) h =
    split_at 32 word (joined (other ∷ words)) (lacks_space word h.0) refl
    ∙ ap (λ (ws : List (List ℕ)). word ∷ ws) (words_joined other words h.1)
