-- The lines of outputs and of counters, by their words: each begins with the name of its node, and only the true
-- offset comes after the fifth word.
use Rattle.std.proofs.Common.{◌≡◌, ◌⊎◌, inl, inr, ◌∙◌, refl, ap, sym, append_assoc, ℕ, ℤ, zero, suc, ◌+◌, ◌/◌, ◌%◌, ◌≤◌, ◌==◌, ◌&&◌, ◌||◌, not, Bool, true, false, List, [], ◌∷◌, ◌++◌, take, length, Option, None, Some, arith}
use Rattle.std.specs.Prelude.{nat_le, slice_index, slice_index_or}
use Rattle.std.specs.Fmt.{decimal, signed_decimal}
use Rattle.std.specs.List.{All, AllByRecursion, find, join_with_byte, list_all, slice_split}
use Rattle.std.specs.Option.{option_map_or}
use Rattle.std.proofs.lemmas.Bool.{and_from, and_parts, leb-true, ne_eqb, not-true, or_cases}
use Rattle.std.proofs.lemmas.List.Folds.{list_all-append}
use Rattle.std.proofs.lemmas.List.Sums.{AllPass-from_list_all}
use Rattle.std.proofs.lemmas.List.Splits.{slice_split_at, slice_split_none}
use Rattle.hex.specs.Hex.{encode_lower, encode_with, lower_digits}
use Rattle.wrp_base.specs.declared.link.LinkState.TheVariants.{Idle, Present, SLock, MLock, Locked, Calibration, Calibrated, RespCalib, LinkOn}
use Rattle.wrp_base.specs.declared.link.LinkWord.{LinkWord}
use Rattle.wrp_base.specs.declared.link.LinkWord.TheVariants.{Down, Quiet, Ptp, In}
use Rattle.wrp_base.specs.declared.link.ServoState.{ServoState}
use Rattle.wrp_base.specs.declared.link.ServoState.TheVariants.{Uninit, SyncTai, SyncNsec, SyncPhase, WaitStable, Track, Holdover}
use Rattle.wrp_caldb.specs.Name.{is_letter, is_name, is_name_octet}
use Rattle.wrp_data.specs.declared.reason.Reason.{Reason}
use Rattle.wrp_data.specs.declared.reason.Reason.TheVariants.{Short, Version, Kind, Length, Time, Tlv, BadWr, OneStep, Domain, Stranger, NotForUs, Quiet as QuietReason, Unmatched, Range, Sample}
use Rattle.wrp_data.specs.Reason.{name_of, number_of, reasons}
use Rattle.wrp_records.specs.Words.{line_of}
use Rattle.wrp_lines.specs.Words.{link_word, reason_word, servo_word}
use Rattle.wrp_records.specs.Lines.{IsWhole, content_of}
use Rattle.wrp_projection_laws.specs.Projection.{without_truth, words_of}
use Rattle.wrp_projection_laws.proofs.Written.{content_clean, no_feeds, no_returns}
use Rattle.wrp_records.proofs.WordLemmas.{decimal_passes, signed_passes}

-- Octets that may appear in a word

abbrev pub is_clean : ℕ → Bool
is_clean c = not (c == 32) && (not (c == 10) && not (c == 13))

abbrev pub IsWord : List ℕ → Type 0
IsWord text = list_all is_clean text ≡ true

high_clean : (c : ℕ) → 33 ≤ c → is_clean c ≡ true
high_clean c high = rw (ne_eqb c 32 (λ e. omega (arith, e, high)), ne_eqb c 10 (λ e. omega (arith, e, high)), ne_eqb c 13 (λ e. omega (arith, e, high))) refl

more_clean : (c : ℕ) (cs : List ℕ) → is_clean c ≡ true → IsWord cs → IsWord (c ∷ cs)
more_clean c cs h k = and_from (is_clean c) (list_all is_clean cs) h k

pub decimal_word : (n : ℕ) → IsWord (decimal n)
decimal_word n = decimal_passes is_clean high_clean n

pub signed_word : (z : ℤ) → IsWord (signed_decimal z)
signed_word z = signed_passes is_clean high_clean z

index_clean : (xs : List ℕ) → IsWord xs → (d : ℕ) → is_clean (slice_index xs d) ≡ true
index_clean [] h d = refl
index_clean (x ∷ xs) h zero = (and_parts (is_clean x) (list_all is_clean xs) h).0
index_clean (x ∷ xs) h (suc d) = index_clean xs (and_parts (is_clean x) (list_all is_clean xs) h).1 d

pub hex_word : (octets : List ℕ) → IsWord (encode_lower octets)
unfolding encode_with
hex_word [] = refl
hex_word (octet ∷ octets) =
    more_clean (slice_index lower_digits (octet / 16)) (slice_index lower_digits (octet % 16) ∷ encode_lower octets)
    (index_clean lower_digits refl (octet / 16))
    (more_clean (slice_index lower_digits (octet % 16)) (encode_lower octets) (index_clean lower_digits refl (octet % 16)) (hex_word octets))

letter_clean : (c : ℕ) → is_letter c ≡ true → is_clean c ≡ true
letter_clean c is = let low = leb-true 97 c (and_parts (nat_le 97 c) (nat_le c 122) is).0 in high_clean c (omega (arith, low))

digit_clean : (c : ℕ) → ((nat_le 48 c && nat_le c 57) ≡ true) ⊎ ((c == 95) ≡ true) → is_clean c ≡ true
digit_clean c (inl is) = let low = leb-true 48 c (and_parts (nat_le 48 c) (nat_le c 57) is).0 in high_clean c (omega (arith, low))
digit_clean c (inr is) = high_clean c (grind (arith, is))

octet_clean : (c : ℕ) → (is_letter c ≡ true) ⊎ (((nat_le 48 c && nat_le c 57) || (c == 95)) ≡ true) → is_clean c ≡ true
octet_clean c (inl is) = letter_clean c is
octet_clean c (inr is) = digit_clean c (or_cases (nat_le 48 c && nat_le c 57) (c == 95) is)

octets_clean : (cs : List ℕ) → list_all is_name_octet cs ≡ true → IsWord cs
octets_clean [] is = refl
octets_clean (c ∷ cs) is =
    let both = and_parts (is_name_octet c) (list_all is_name_octet cs) is in
    more_clean c cs (octet_clean c (or_cases (is_letter c) ((nat_le 48 c && nat_le c 57) || (c == 95)) both.0)) (octets_clean cs both.1)

pub name_word : (name : List ℕ) → is_name name ≡ true → IsWord name
name_word [] is = refl
name_word (c ∷ cs) is =
    let both = and_parts (is_letter c) (list_all is_name_octet cs && nat_le (length cs) 15) is in
    more_clean c cs (letter_clean c both.0) (octets_clean cs (and_parts (list_all is_name_octet cs) (nat_le (length cs) 15) both.1).0)

pub link_is_word : (word : LinkWord) → IsWord (link_word word)
link_is_word Down = refl
link_is_word Quiet = refl
link_is_word Ptp = refl
link_is_word (In Idle) = refl
link_is_word (In Present) = refl
link_is_word (In SLock) = refl
link_is_word (In MLock) = refl
link_is_word (In Locked) = refl
link_is_word (In Calibration) = refl
link_is_word (In Calibrated) = refl
link_is_word (In RespCalib) = refl
link_is_word (In LinkOn) = refl

pub servo_is_word : (state : ServoState) → IsWord (servo_word state)
servo_is_word Uninit = refl
servo_is_word SyncTai = refl
servo_is_word SyncNsec = refl
servo_is_word SyncPhase = refl
servo_is_word WaitStable = refl
servo_is_word Track = refl
servo_is_word Holdover = refl

name_of_word : (reason : Reason) → IsWord (name_of reason)
name_of_word Short = refl
name_of_word Version = refl
name_of_word Kind = refl
name_of_word Length = refl
name_of_word Time = refl
name_of_word Tlv = refl
name_of_word BadWr = refl
name_of_word OneStep = refl
name_of_word Domain = refl
name_of_word Stranger = refl
name_of_word NotForUs = refl
name_of_word QuietReason = refl
name_of_word Unmatched = refl
name_of_word Range = refl
name_of_word Sample = refl

reason_by : (o : Option Reason) → IsWord (option_map_or name_of o [])
reason_by None = refl
reason_by (Some reason) = name_of_word reason

pub reason_is_word : (number : ℕ) → IsWord (reason_word number)
unfolding reason_word
reason_is_word number = reason_by (find (λ reason. number_of reason == number) reasons)

-- Lines of words

abbrev pub AreWords : List (List ℕ) → Type 0
AreWords words = AllByRecursion IsWord words

pub line_joined : (word : List ℕ) (words : List (List ℕ)) → line_of (word ∷ words) ≡ join_with_byte 32 (word ∷ words) ++ 10 ∷ []
line_joined word [] = refl
line_joined word (next ∷ words) =
    ap (λ (l : List ℕ). word ++ 32 ∷ l) (line_joined next words) ∙ sym (append_assoc word (32 ∷ join_with_byte 32 (next ∷ words)) (10 ∷ []))

-- an octet that may appear in a line
abbrev is_line_octet : ℕ → Bool
is_line_octet c = not (c == 10) && not (c == 13)

word_plain : (text : List ℕ) → IsWord text → list_all is_line_octet text ≡ true
word_plain [] is = refl
word_plain (c ∷ cs) is =
    let both = and_parts (is_clean c) (list_all is_clean cs) is in
    and_from (is_line_octet c) (list_all is_line_octet cs) (and_parts (not (c == 32)) (is_line_octet c) both.0).1 (word_plain cs both.1)

joined_plain : (word : List ℕ) (words : List (List ℕ)) → AreWords (word ∷ words) → list_all is_line_octet (join_with_byte 32 (word ∷ words)) ≡ true
joined_plain word [] are = word_plain word are.0
joined_plain word (next ∷ words) are =
    list_all-append is_line_octet word (32 ∷ join_with_byte 32 (next ∷ words))
    ∙ and_from (list_all is_line_octet word) (list_all is_line_octet (join_with_byte 32 (next ∷ words))) (word_plain word are.0) (joined_plain next words are.1)

octet_feed : (c : ℕ) → is_line_octet c ≡ true → (c == 10) ≡ false
octet_feed c is = not-true (c == 10) (and_parts (not (c == 10)) (not (c == 13)) is).0

octet_return : (c : ℕ) → is_line_octet c ≡ true → (c == 13) ≡ false
octet_return c is = not-true (c == 13) (and_parts (not (c == 10)) (not (c == 13)) is).1

pub line_whole : (word : List ℕ) (words : List (List ℕ)) → AreWords (word ∷ words) → IsWhole (line_of (word ∷ words))
line_whole word words are = record {
  front = join_with_byte 32 (word ∷ words);
  is = line_joined word words;
  plain = no_feeds is_line_octet octet_feed (join_with_byte 32 (word ∷ words)) (joined_plain word words are);
}

line_content : (word : List ℕ) (words : List (List ℕ)) → AreWords (word ∷ words) → content_of (line_of (word ∷ words)) ≡ join_with_byte 32 (word ∷ words)
line_content word words are =
    ap content_of (line_joined word words)
    ∙ content_clean (join_with_byte 32 (word ∷ words)) (no_returns is_line_octet octet_return (join_with_byte 32 (word ∷ words)) (joined_plain word words are))

space_free : (text : List ℕ) → IsWord text → All (λ octet. (octet == 32) ≡ false) text
space_free text is k d below =
    let octet = AllPass-from_list_all is_clean text is k d below in
    not-true (slice_index_or text k d == 32) (and_parts (not (slice_index_or text k d == 32)) (is_line_octet (slice_index_or text k d)) octet).0

split_back : (word : List ℕ) (words : List (List ℕ)) → AreWords (word ∷ words)
    → slice_split (λ octet. octet == 32) (join_with_byte 32 (word ∷ words)) ≡ word ∷ words
split_back word [] are = slice_split_none (λ octet. octet == 32) word (space_free word are.0)
split_back word (next ∷ words) are =
    slice_split_at (λ octet. octet == 32) word 32 (join_with_byte 32 (next ∷ words)) (space_free word are.0) refl
    ∙ ap (λ (ws : List (List ℕ)). word ∷ ws) (split_back next words are.1)

-- the words of a line are the words that it was made of
pub words_back : (word : List ℕ) (words : List (List ℕ)) → AreWords (word ∷ words) → words_of (line_of (word ∷ words)) ≡ word ∷ words
words_back word words are = ap (slice_split (λ octet. octet == 32)) (line_content word words are) ∙ split_back word words are

-- and without what comes after the fifth word it is the line of the first five
pub cut_back : (word : List ℕ) (words : List (List ℕ)) → AreWords (word ∷ words) → without_truth (line_of (word ∷ words)) ≡ line_of (take 5 (word ∷ words))
cut_back word words are =
    ap (λ (ws : List (List ℕ)). join_with_byte 32 (take 5 ws) ++ 10 ∷ []) (words_back word words are) ∙ sym (line_joined word (take 4 words))
