-- The words of printed lines: none of them has a space or an LF, so a line reads as its words.
use Rattle.std.proofs.Common.{◌≡◌, ◌∙◌, refl, ap, ℕ, ℤ, pos, ◌==◌, not, true, false, List, [], ◌∷◌, Option, Some}
use Rattle.std.specs.Prelude.{slice_index_or}
use Rattle.std.specs.List.{All}
use Rattle.std.specs.Fmt.{decimal}
use Rattle.std.proofs.lemmas.Bool.{and_parts, not-true}
use Rattle.std.proofs.lemmas.List.Splits.{slice_split_at}
use Rattle.std.proofs.lemmas.List.Sums.{AllPass-from_list_all}
use Rattle.wrp_network.specs.Network.{name_at}
use Rattle.wrp_bounds.specs.Bounds.{path_of}
use Rattle.wrp_config.specs.Accepted.{HasNames}
use Rattle.wrp_course.specs.Setting.{Setting}
use Rattle.wrp_course.specs.WorldAt.{WorldAt}
use Rattle.wrp_lines.specs.Lines.{output_line, output_words}
use Rattle.wrp_lines.proofs.LineWords.{at_word, output_are}
use Rattle.wrp_node.specs.declared.interface.Output.{Output}
use Rattle.wrp_records.specs.Words.{IsWord, is_word_octet, line_of}
use Rattle.wrp_records.proofs.WordLemmas.{AreWords, decimal_word}
use Rattle.wrp_printed_laws.specs.Words.{Reads, is_gap}

-- an octet of a word is no gap
no_gap : (c : ℕ) → is_word_octet c ≡ true → is_gap c ≡ false
no_gap c is =
    let both = and_parts (not (c == 32)) (not (c == 10)) is in
    rw (not-true (c == 32) both.0, not-true (c == 10) both.1) refl

gap_free : (word : List ℕ) → IsWord word → All (λ c. is_gap c ≡ false) word
gap_free word is k d below = no_gap (slice_index_or word k d) (AllPass-from_list_all is_word_octet word is k d below)

-- a line reads as the words of which it is made
pub reads : (word : List ℕ) (words : List (List ℕ)) → AreWords (word ∷ words) → Reads (line_of (word ∷ words)) (word ∷ words)
reads word [] are = slice_split_at is_gap word 10 [] (gap_free word are.0) refl
reads word (next ∷ words) are =
    slice_split_at is_gap word 32 (line_of (next ∷ words)) (gap_free word are.0) refl ∙ ap (λ (l : List (List ℕ)). word ∷ l) (reads next words are.1)

-- the line of an output
pub output_reads : (name : List ℕ) (tick : ℕ) (o : Output) (bound : ℤ) (truth : Option ℤ) → IsWord name →
    Reads (line_of (name ∷ decimal tick ∷ output_words o bound truth)) (name ∷ decimal tick ∷ output_words o bound truth)
output_reads name tick o bound truth is = reads name (decimal tick ∷ output_words o bound truth) (is, (decimal_word tick, output_are o bound truth))

-- the line of what a node put out in an event that led to this world
abbrev pub words_at : Setting → WorldAt → ℕ → Output → List (List ℕ)
words_at s w m o = name_at s.cfg m ∷ decimal (w.node m).ticks ∷ output_words o (pos (path_of s.cfg m)) (Some (w.clock m).off)

abbrev pub line_at : Setting → WorldAt → ℕ → Output → List ℕ
line_at s w m o = output_line s.cfg m (w.node m).ticks o (Some (w.clock m).off)

pub at_reads : (s : Setting) (w : WorldAt) (m : ℕ) (o : Output) → HasNames s.cfg → Reads (line_at s w m o) (words_at s w m o)
at_reads s w m o names = output_reads (name_at s.cfg m) (w.node m).ticks o (pos (path_of s.cfg m)) (Some (w.clock m).off) (at_word s.cfg names m)
