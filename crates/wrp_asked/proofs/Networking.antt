-- How far the reading of the network text has come.
use Rattle.std.proofs.Common.{◌≡◌, ◌⊎◌, inl, inr, true, false, ℕ, ◌+◌, ◌<◌, ◌≤◌, Option, None, Bool, List, [], ◌∷◌, ◌++◌, length, refl, sym, ap, ◌∙◌, subst, append_assoc, append-nil, length-append, arith, codes, min, length-take, take, drop, reverse, eq-eqb, ◌==◌}
use Rattle.std.specs.List.{concat, AllByRecursion}
use Rattle.std.specs.Io.{StartsWith}
use Rattle.std.proofs.lemmas.Bool.Decides.{nat_tests}
use Rattle.std.proofs.KnownBytes.{starts_with_rest}
use Rattle.std.proofs.lemmas.Slice.Eq.{bytes_eq-Decides}
use Rattle.std.proofs.lemmas.List.{reverse-reverse, nil_from_length}
use Rattle.std.specs.Io.KnownBytes.{Consumes}
use Rattle.std.proofs.KnownBytes.{Consumes-nil}
use Rattle.wrp_scene.proofs.SceneLemmas.{all_more}
use Rattle.wrp_records.specs.Lines.{lines_of, content_of, without_end, HasNoFeed, IsWhole}
use Rattle.wrp_asked.specs.Input.{is_separator, before_separator, behind_separator, network_text, network_limit, IsDivided, IsTooLong, IsUndivided, BeginsSeparator, NetworkOutcome}
use Rattle.wrp_asked.specs.declared.network_text.HowItEnded.{HowItEnded}
use Rattle.wrp_asked.specs.declared.network_text.HowItEnded.TheVariants.{Whole, TooLong, Failed, Memory}
use Rattle.wrp_records.specs.Reader.{ReaderAt, Takes, IsNext, IsCut, IsLast}
use Rattle.wrp_records.proofs.Feeds.{lines_of-whole, lines_of-open}
use Rattle.wrp_records.specs.Reached.{Reached}
use Rattle.wrp_records.proofs.NextLines.{next_line, cut_line}
use Rattle.wrp_records.proofs.Reaching.{Coming, comes, whole_before, next_some, goes_on_with, lines_behind, concat-snoc}

-- the lines are the lines of a network text so far
pub record NetworkLines (lines : List (List ℕ)) (text : List ℕ) : Type 0 where
  pub none : AllByRecursion (λ line. is_separator line ≡ false) lines
  pub is : text ≡ concat lines

-- nothing more is asked
abbrev pub Anything : List (List ℕ) → Type 0
Anything lines = Unit {0}

-- the lines so far are the lines of the network text
pub record Networked (r : ReaderAt) (left rest : Option (List ℕ)) (text : List ℕ) : Type 0 where
  pub number : ℕ
  pub so_far : Reached NetworkLines Anything [] r left rest None None text number
  pub same : text ≡ so_far.text

-- before the first line
pub begins_network : (r : ReaderAt) (left : Option (List ℕ)) (text : List ℕ) → r.rest ≡ [] → text ≡ [] → Networked r left left text
begins_network r left text none same = record {
  number = 0;
  so_far = record {
    given = [];
    lines = [];
    text = [];
    out = [];
    taken = Consumes-nil left;
    written = tt;
    waits = sym same;
    all = sym none;
    first = inl tt;
    handled = record { none = tt; is = refl };
    has = tt;
    count = refl;
  };
  same = same;
}

-- lines of which none is the separator, and then others
pub network_before : (lines behind : List (List ℕ)) → AllByRecursion (λ line. is_separator line ≡ false) lines
    → before_separator (lines ++ behind) ≡ concat lines ++ before_separator behind
network_before [] behind none = refl
network_before (line ∷ lines) behind none =
    let other : is_separator line ≡ false = none.0 in
    let later : before_separator (lines ++ behind) ≡ concat lines ++ before_separator behind = network_before lines behind none.1 in
    simp (other, later) (sym (append_assoc line (concat lines) (before_separator behind)))

pub records_behind : (lines behind : List (List ℕ)) → AllByRecursion (λ line. is_separator line ≡ false) lines
    → behind_separator (lines ++ behind) ≡ behind_separator behind
records_behind [] behind none = refl
records_behind (line ∷ lines) behind none =
    let other : is_separator line ≡ false = none.0 in
    simp other (records_behind lines behind none.1)

-- at the separator
pub divides : (line : List ℕ) (r : ReaderAt) (left rest : Option (List ℕ)) (waiting : List ℕ) (number : ℕ)
    → (so_far : Coming NetworkLines Anything [] line r left rest None None waiting number)
    → IsNext line r → is_separator line ≡ true → IsDivided so_far.given so_far.text r
divides line r left rest waiting number so_far next is =
    let whole : AllByRecursion IsWhole so_far.lines =
    whole_before NetworkLines Anything [] line r left rest None None waiting number so_far (next_some line r next) in
    let front : List ℕ = concat so_far.lines ++ line in
    let goes : so_far.given ≡ front ++ r.rest = so_far.all ∙ sym (append_assoc (concat so_far.lines) line r.rest) in
    let text_is : (behind : List (List ℕ)) → before_separator (so_far.lines ++ line ∷ behind) ≡ so_far.text =
    λ behind.
    let none : before_separator (line ∷ behind) ≡ [] = simp is refl in
    network_before so_far.lines (line ∷ behind) so_far.handled.none ∙ ap (λ l. concat so_far.lines ++ l) none ∙ append-nil (concat so_far.lines)
    ∙ sym so_far.handled.is in
    let records_are : (behind : List (List ℕ)) → behind_separator (so_far.lines ++ line ∷ behind) ≡ behind =
    λ behind.
    let all : behind_separator (line ∷ behind) ≡ behind = simp is refl in
    records_behind so_far.lines (line ∷ behind) so_far.handled.none ∙ all in
    elim next [
      | inl one ↦ inl (
        front,
        goes,
        λ more.
            let here : lines_of (line ++ more) ≡ line ∷ lines_of more =
            subst (λ (l : List ℕ). lines_of (l ++ more) ≡ l ∷ lines_of more) (sym one.is) (lines_of-whole one.front more one.plain) in
            let are : lines_of (front ++ more) ≡ so_far.lines ++ line ∷ lines_of more =
            ap lines_of (append_assoc (concat so_far.lines) line more) ∙ lines_behind so_far.lines (line ++ more) whole ∙ ap (λ ls. so_far.lines ++ ls) here in
            (ap before_separator are ∙ text_is (lines_of more), ap behind_separator are ∙ records_are (lines_of more)),
      )
      | inr end ↦
          let plain : so_far.given ≡ concat so_far.lines ++ line = goes ∙ ap (λ l. front ++ l) end.last.none ∙ append-nil front in
          let are : lines_of so_far.given ≡ so_far.lines ++ line ∷ [] =
          ap lines_of plain ∙ lines_behind so_far.lines line whole ∙ ap (λ ls. so_far.lines ++ ls) (lines_of-open line end.some end.plain) in
          inr (end.last, ap before_separator are ∙ text_is [], ap behind_separator are ∙ records_are [])
    ]

-- at the end of the input
pub divides_at_end : (line : List ℕ) (r : ReaderAt) (left rest : Option (List ℕ)) (waiting : List ℕ) (number : ℕ)
    → (so_far : Coming NetworkLines Anything [] line r left rest None None waiting number)
    → IsLast r → line ≡ [] → IsDivided so_far.given so_far.text r
divides_at_end line r left rest waiting number so_far last none =
    let nothing : line ++ r.rest ≡ [] = ap (λ l. l ++ r.rest) none ∙ last.none in
    let are : lines_of so_far.given ≡ so_far.lines ++ [] =
    elim so_far.first [
      | inl whole ↦ ap lines_of (so_far.all ∙ ap (λ l. concat so_far.lines ++ l) nothing) ∙ lines_behind so_far.lines [] whole
      | inr all ↦ all.2 ∙ sym (append-nil so_far.lines)
    ] in
    inr (
      last,
      ap before_separator are ∙ network_before so_far.lines [] so_far.handled.none ∙ append-nil (concat so_far.lines) ∙ sym so_far.handled.is,
      ap behind_separator are ∙ records_behind so_far.lines [] so_far.handled.none,
    )

-- octets without an LF that begin a word with its LF begin the word
begins_word : (cut tail word : List ℕ) → cut ++ tail ≡ word ++ 10 ∷ [] → HasNoFeed cut → StartsWith word cut
begins_word [] tail word is plain = refl
begins_word (octet ∷ cut) tail [] is plain =
    let feed : octet ≡ 10 = cc in
    let here : (octet == 10) ≡ true = eq-eqb octet 10 feed in
    let other : (octet == 10) ≡ false = plain.0 in
    absurd (cc)
begins_word (octet ∷ cut) tail (letter ∷ word) is plain =
    let first : octet ≡ letter = cc in
    let rest : cut ++ tail ≡ word ++ 10 ∷ [] = cc in
    let later : take (length cut) word ≡ cut = begins_word cut tail word rest plain.1 in
    ap (λ l. letter ∷ l) later ∙ ap (λ o. o ∷ cut) (sym first)

-- octets that end with the word itself
begins_short : (cut tail : List ℕ) → cut ++ tail ≡ codes "---" → HasNoFeed cut → StartsWith (codes "---\r") cut
begins_short cut tail is plain =
    begins_word cut (tail ++ 13 ∷ 10 ∷ []) (codes "---\r") (sym (append_assoc cut tail (13 ∷ 10 ∷ [])) ∙ ap (λ l. l ++ 13 ∷ 10 ∷ []) is) plain

-- what a line is that says the word, read from its last octet
word_from_back : (octets : List ℕ) → without_end octets ≡ codes "---"
    → (octets ≡ codes "---") ⊎ ((octets ≡ 10 ∷ codes "---") ⊎ (octets ≡ 10 ∷ 13 ∷ codes "---"))
word_from_back [] is = absurd (cc)
word_from_back (octet ∷ []) is =
    elim (octet == 10) as (λ b. (octet == 10) ≡ b → ((octet ∷ []) ≡ codes "---") ⊎ (((octet ∷ []) ≡ 10 ∷ codes "---") ⊎ ((octet ∷ []) ≡ 10 ∷ 13 ∷ codes "---"))) [
      | true ↦ λ feed. let none : [] ≡ codes "---" = simp feed at is in absurd (cc)
      | false ↦ λ other. let one : octet ∷ [] ≡ codes "---" = simp other at is in absurd (cc)
    ] refl
word_from_back (octet ∷ next ∷ octets) is =
    elim (octet == 10) as (λ b. (octet == 10) ≡ b → ((octet ∷ next ∷ octets) ≡ codes "---") ⊎ (((octet ∷ next ∷ octets) ≡ 10 ∷ codes "---") ⊎ ((octet ∷ next ∷ octets) ≡ 10 ∷ 13 ∷ codes "---"))) [
      | true ↦ λ feed.
          let here : octet ≡ 10 = grind (arith, nat_tests, feed) in
          elim (next == 13) as (λ b. (next == 13) ≡ b → ((octet ∷ next ∷ octets) ≡ codes "---") ⊎ (((octet ∷ next ∷ octets) ≡ 10 ∷ codes "---") ⊎ ((octet ∷ next ∷ octets) ≡ 10 ∷ 13 ∷ codes "---"))) [
            | true ↦ λ return.
                let there : next ≡ 13 = grind (arith, nat_tests, return) in
                let rest : octets ≡ codes "---" = simp (feed, return) at is in inr (inr (cc))
            | false ↦ λ letter. let rest : next ∷ octets ≡ codes "---" = simp (feed, letter) at is in inr (inl (cc))
          ] refl
      | false ↦ λ other. inl (simp other at is)
    ] refl

-- a cut line that cannot end the network text does not
pub no_separator : (cut tail : List ℕ) → HasNoFeed cut → (StartsWith (codes "---\r") cut → ⊥) → is_separator (cut ++ tail) ≡ false
no_separator cut tail plain never =
    elim (is_separator (cut ++ tail)) as (λ b. is_separator (cut ++ tail) ≡ b → b ≡ false) [
      | false ↦ λ is. refl
      | true ↦ λ is.
          let said : content_of (cut ++ tail) ≡ codes "---" = (bytes_eq-Decides (content_of (cut ++ tail)) (codes "---")).0 is in
          let back : without_end (reverse (cut ++ tail)) ≡ codes "---" = sym (reverse-reverse _) ∙ ap reverse said in
          let forth : (word : List ℕ) → reverse (cut ++ tail) ≡ word → cut ++ tail ≡ reverse word =
          λ word e. sym (reverse-reverse (cut ++ tail)) ∙ ap reverse e in
          elim (word_from_back (reverse (cut ++ tail)) back) [
            | inl one ↦ absurd (never (begins_short cut tail (forth _ one) plain))
            | inr more ↦ elim more [
              | inl one ↦
                  let short : StartsWith (codes "---") cut = begins_word cut tail (codes "---") (forth _ one) plain in
                  absurd (never (begins_short cut (drop (length cut) (codes "---")) (sym (starts_with_rest (codes "---") cut short)) plain))
              | inr one ↦ absurd (never (begins_word cut tail (codes "---\r") (forth _ one) plain))
            ]
          ]
    ] refl

-- a line of too many octets
pub too_long_line : (line : List ℕ) (r : ReaderAt) (left rest : Option (List ℕ)) (waiting : List ℕ) (number : ℕ)
    → (so_far : Coming NetworkLines Anything [] line r left rest None None waiting number)
    → IsNext line r → is_separator line ≡ false → network_limit < length so_far.text + length line → IsTooLong so_far.given r
too_long_line line r left rest waiting number so_far next other long more goes =
    let whole : AllByRecursion IsWhole so_far.lines =
    whole_before NetworkLines Anything [] line r left rest None None waiting number so_far (next_some line r next) in
    let are : lines_of (so_far.given ++ more) ≡ so_far.lines ++ line ∷ lines_of (r.rest ++ more) =
    ap (λ l. lines_of (l ++ more)) so_far.all ∙ ap lines_of (append_assoc (concat so_far.lines) (line ++ r.rest) more)
    ∙ ap (λ l. lines_of (concat so_far.lines ++ l)) (append_assoc line r.rest more)
    ∙ lines_behind so_far.lines (line ++ (r.rest ++ more)) whole ∙ ap (λ ls. so_far.lines ++ ls) (next_line line more r next goes) in
    let front : before_separator (line ∷ lines_of (r.rest ++ more)) ≡ line ++ before_separator (lines_of (r.rest ++ more)) = simp other refl in
    let is : network_text (so_far.given ++ more) ≡ so_far.text ++ (line ++ before_separator (lines_of (r.rest ++ more))) =
    ap before_separator are ∙ network_before so_far.lines _ so_far.handled.none
    ∙ ap (λ l. concat so_far.lines ++ l) front ∙ ap (λ l. l ++ (line ++ before_separator (lines_of (r.rest ++ more)))) (sym so_far.handled.is) in
    let size : length (network_text (so_far.given ++ more)) ≡ length so_far.text + (length line + length (before_separator (lines_of (r.rest ++ more)))) =
    ap length is ∙ length-append so_far.text _ ∙ ap (λ n. length so_far.text + n) (length-append line _) in
    omega arith

-- a cut line of too many octets
pub too_long_cut : (line : List ℕ) (r : ReaderAt) (left rest : Option (List ℕ)) (waiting : List ℕ) (number : ℕ)
    → (so_far : Coming NetworkLines Anything [] line r left rest None None waiting number)
    → IsCut line r → (StartsWith (codes "---\r") line → ⊥) → 0 < length line → network_limit < length so_far.text + length line → IsTooLong so_far.given r
too_long_cut line r left rest waiting number so_far cut never some long more goes =
    let whole : AllByRecursion IsWhole so_far.lines = whole_before NetworkLines Anything [] line r left rest None None waiting number so_far some in
    let on = cut_line line more cut.plain some in
    let are : lines_of (so_far.given ++ more) ≡ so_far.lines ++ (line ++ on.0) ∷ on.1 =
    ap (λ l. lines_of (l ++ more)) (so_far.all ∙ ap (λ l. concat so_far.lines ++ (line ++ l)) cut.none ∙ ap (λ l. concat so_far.lines ++ l) (append-nil line))
    ∙ ap lines_of (append_assoc (concat so_far.lines) line more)
    ∙ lines_behind so_far.lines (line ++ more) whole ∙ ap (λ ls. so_far.lines ++ ls) on.2 in
    let other : is_separator (line ++ on.0) ≡ false = no_separator line on.0 cut.plain never in
    let front : before_separator ((line ++ on.0) ∷ on.1) ≡ (line ++ on.0) ++ before_separator on.1 = simp other refl in
    let is : network_text (so_far.given ++ more) ≡ so_far.text ++ ((line ++ on.0) ++ before_separator on.1) =
    ap before_separator are ∙ network_before so_far.lines _ so_far.handled.none
    ∙ ap (λ l. concat so_far.lines ++ l) front ∙ ap (λ l. l ++ ((line ++ on.0) ++ before_separator on.1)) (sym so_far.handled.is) in
    let size : length (network_text (so_far.given ++ more)) ≡ length so_far.text + (length line + length on.0 + length (before_separator on.1)) =
    ap length is ∙ length-append so_far.text _
    ∙ ap (λ n. length so_far.text + n) (length-append (line ++ on.0) _ ∙ ap (λ n. n + length (before_separator on.1)) (length-append line on.0)) in
    omega arith

-- if the source failed
pub undivided : (line : List ℕ) (r : ReaderAt) (left rest : Option (List ℕ)) (waiting : List ℕ) (number : ℕ)
    → (so_far : Coming NetworkLines Anything [] line r left rest None None waiting number)
    → IsCut line r → r.ended ≡ false → length so_far.text ≤ network_limit → (length so_far.text + length line ≤ network_limit) ⊎ StartsWith (codes "---\r") line
    → IsUndivided so_far.given
undivided line r left rest waiting number so_far cut goes fits room =
    let all : so_far.given ≡ concat so_far.lines ++ line =
    so_far.all ∙ ap (λ l. concat so_far.lines ++ (line ++ l)) cut.none ∙ ap (λ l. concat so_far.lines ++ l) (append-nil line) in
    let size : length so_far.given ≡ length (concat so_far.lines) + length line = ap length all ∙ length-append (concat so_far.lines) line in
    let same : length so_far.text ≡ length (concat so_far.lines) = ap length so_far.handled.is in
    record {
      lines = so_far.lines;
      cut = line;
      all = all;
      whole = elim so_far.first [ inl whole ↦ whole | inr last ↦ let never = sym last.0 ∙ goes in absurd (cc) ];
      plain = cut.plain;
      none = so_far.handled.none;
      lines_fit = omega arith;
      cut_fits = elim room [ inl small ↦ inl (omega arith) | inr begun ↦ inr begun ];
    }

-- one more line
pub goes_on_network : (line text : List ℕ) (r : ReaderAt) (left rest : Option (List ℕ)) (waiting : List ℕ) (number : ℕ)
    → (so_far : Coming NetworkLines Anything [] line r left rest None None waiting number)
    → IsNext line r → is_separator line ≡ false → text ≡ waiting ++ line → text ≡ so_far.text ++ line → Networked r left rest text
unfolding goes_on_with
goes_on_network line text r left rest waiting number so_far next other is same = record {
  number = number + 1;
  so_far = goes_on_with NetworkLines Anything Anything [] line r left rest None None waiting text line number so_far next tt (record {
    none = all_more (λ l. is_separator l ≡ false) so_far.lines line so_far.handled.none other;
    is = ap (λ l. l ++ line) so_far.handled.is ∙ sym (concat-snoc so_far.lines line);
  }) is;
  same = same;
}

-- what is known when the reading ended
abbrev pub NetworkEnded : HowItEnded → List ℕ → ReaderAt → Option (List ℕ) → Option (List ℕ) → Type 0
NetworkEnded end text s left further = (given : List ℕ) × Consumes left further given × NetworkOutcome end given text s

pub network_ends : (line text : List ℕ) (r s : ReaderAt) (left rest further : Option (List ℕ)) → Networked r left rest text
    → Takes rest further r.rest r.ended s line
    → IsLast s → line ≡ [] → length text ≤ network_limit → NetworkEnded Whole text s left further
unfolding comes
network_ends line text r s left rest further held more last none fits =
    let so_far = comes NetworkLines Anything [] line r s left rest further None None text held.number held.so_far more in
    (so_far.given, so_far.taken, (subst (λ (t : List ℕ). IsDivided so_far.given t s) (sym held.same) (divides_at_end line s left further text held.number so_far last none), fits))

pub network_divides : (line text : List ℕ) (r s : ReaderAt) (left rest further : Option (List ℕ)) → Networked r left rest text
    → Takes rest further r.rest r.ended s line
    → IsNext line s → is_separator line ≡ true → length text ≤ network_limit → NetworkEnded Whole text s left further
unfolding comes
network_divides line text r s left rest further held more next is fits =
    let so_far = comes NetworkLines Anything [] line r s left rest further None None text held.number held.so_far more in
    (so_far.given, so_far.taken, (subst (λ (t : List ℕ). IsDivided so_far.given t s) (sym held.same) (divides line s left further text held.number so_far next is), fits))

pub network_cut_long : (line text after : List ℕ) (r s : ReaderAt) (left rest further : Option (List ℕ)) → Networked r left rest text
    → Takes rest further r.rest r.ended s line
    → IsCut line s → (StartsWith (codes "---\r") line → ⊥) → 0 < length line → network_limit < length text + length line
    → NetworkEnded TooLong after s left further
unfolding comes
network_cut_long line text after r s left rest further held more cut never some long =
    let so_far = comes NetworkLines Anything [] line r s left rest further None None text held.number held.so_far more in
    let size : network_limit < length so_far.text + length line = subst (λ (t : List ℕ). network_limit < length t + length line) held.same long in
    (so_far.given, so_far.taken, too_long_cut line s left further text held.number so_far cut never some size)

pub network_line_long : (line text after : List ℕ) (r s : ReaderAt) (left rest further : Option (List ℕ)) → Networked r left rest text
    → Takes rest further r.rest r.ended s line
    → IsNext line s → is_separator line ≡ false → network_limit < length text + length line → NetworkEnded TooLong after s left further
unfolding comes
network_line_long line text after r s left rest further held more next other long =
    let so_far = comes NetworkLines Anything [] line r s left rest further None None text held.number held.so_far more in
    let size : network_limit < length so_far.text + length line = subst (λ (t : List ℕ). network_limit < length t + length line) held.same long in
    (so_far.given, so_far.taken, too_long_line line s left further text held.number so_far next other size)

pub network_fails : (line text after : List ℕ) (r s : ReaderAt) (left rest further : Option (List ℕ)) → Networked r left rest text
    → Takes rest further r.rest r.ended s line
    → IsCut line s → s.ended ≡ false → length text ≤ network_limit → (length text + length line ≤ network_limit) ⊎ StartsWith (codes "---\r") line
    → NetworkEnded Failed after s left further
unfolding comes
network_fails line text after r s left rest further held more cut goes fits room =
    let so_far = comes NetworkLines Anything [] line r s left rest further None None text held.number held.so_far more in (
      so_far.given,
      so_far.taken,
      undivided line s left further text held.number so_far cut goes
          (subst (λ (t : List ℕ). length t ≤ network_limit) held.same fits)
          (subst (λ (t : List ℕ). (length t + length line ≤ network_limit) ⊎ StartsWith (codes "---\r") line) held.same room),
    )

pub network_no_memory : (line text after : List ℕ) (r s : ReaderAt) (left rest further : Option (List ℕ)) → Networked r left rest text
    → Takes rest further r.rest r.ended s line → NetworkEnded Memory after s left further
unfolding comes
network_no_memory line text after r s left rest further held more =
    let so_far = comes NetworkLines Anything [] line r s left rest further None None text held.number held.so_far more in
    (so_far.given, so_far.taken, tt)

pub network_goes_on : (line text after : List ℕ) (r s : ReaderAt) (left rest further : Option (List ℕ)) → Networked r left rest text
    → Takes rest further r.rest r.ended s line
    → IsNext line s → is_separator line ≡ false → after ≡ text ++ line → Networked s left further after
unfolding comes
network_goes_on line text after r s left rest further held more next other same =
    let so_far = comes NetworkLines Anything [] line r s left rest further None None text held.number held.so_far more in
    goes_on_network line after s left further text held.number so_far next other same (same ∙ ap (λ t. t ++ line) held.same)

-- what begins the separator has four octets at most
pub begins_fits : (line : List ℕ) → StartsWith (codes "---\r") line → length line ≤ 4
begins_fits line begins =
    let size : length (take (length line) (codes "---\r")) ≡ length line = ap length begins in
    let short : length (take (length line) (codes "---\r")) ≡ min (length line) 4 = length-take (length line) (codes "---\r") in
    omega arith

-- nothing was read on yet, or the line is cut, has as many octets as were asked for, and may still end
-- the network text
abbrev pub HasBegun : ℕ → ℕ → List ℕ → ReaderAt → Type 0
HasBegun left most line r = (most ≡ left) ⊎ ((most ≡ length line) × IsCut line r × BeginsSeparator line)

-- a line that did not grow passes no size, or may still end the network text
pub begun_fails : (left most : ℕ) (line after : List ℕ) (r s : ReaderAt) (rest further : Option (List ℕ)) (ended : Bool) → HasBegun left most line r
    → Takes rest further (line ++ r.rest) ended s after → IsCut after s → length after ≤ most → (length after ≤ left) ⊎ BeginsSeparator after
begun_fails left most line after r s rest further ended begun more cut within =
    elim begun [
      | inl first ↦ inl (omega (arith, first, within))
      | inr on ↦
          let grown : after ≡ line ++ more.0 =
          sym (append-nil after) ∙ ap (λ l. after ++ l) (sym cut.none) ∙ more.2 ∙ ap (λ l. (line ++ l) ++ more.0) on.1.none
          ∙ ap (λ l. l ++ more.0) (append-nil line) in
          let size : length after ≡ length line + length more.0 = ap length grown ∙ length-append line more.0 in
          let none : length more.0 ≡ 0 = omega (arith, on.0, within, size) in
          let same : line ≡ after = sym (append-nil line) ∙ ap (λ l. line ++ l) (sym (nil_from_length more.0 none)) ∙ sym grown in
          inr (subst BeginsSeparator same on.2)
    ]
