-- What an answer shows: the records before its last line write what comes before that line.
use Rattle.std.proofs.Common.{◌≡◌, ◌∙◌, inl, inr, ap, sym, subst, refl, ℕ, List, [], ◌∷◌, ◌++◌, ◌+◌, length, map}
use Rattle.std.proofs.lemmas.List.{append-nil, length-map}
use Rattle.wrp_l1sync.specs.LineAnswers.{AnswersShowThePair, Names, ShowsBy, ShowsFirst, ShowsFront, ShowsWhole, WhatStandsShowsThePair}
use Rattle.wrp_l1sync.specs.LineRecords.{Accepts, Refuses, meaning}
use Rattle.wrp_l1sync.proofs.LineTheoremLaws.{text_shows_the_pair}
use Rattle.wrp_records.proofs.Unique.{never_barred}
use Rattle.wrp_records.specs.declared.machine.Refusal.{Refusal}
use Rattle.wrp_records.specs.declared.machine.Refusal.TheVariants as refusals
use Rattle.wrp_records.specs.declared.status.Status.{Status}
use Rattle.wrp_records.specs.declared.status.Status.TheVariants.{Done, BadTrace, Broken, TooLarge, OutOfMemory, BadCalib}
use Rattle.wrp_records.specs.Lines.{content_of, lines_of}
use Rattle.wrp_records.specs.RecordsAnswer.{IsLarge, IsRefused, IsWholly, RecordsAnswer, StandsFirst}
use Rattle.wrp_records.specs.Stream.{CutHandled, large_line}

-- a line that is no record is named
bad_named : (lines : List (List ℕ)) (line last : List ℕ) → Refuses lines line refusals.BadTrace last → Names BadTrace (length lines + 1) last
bad_named [] line last p = (p.0, p.2)
bad_named (first ∷ later) line last p = (p.0, p.2)

-- and so is one that breaks a premise
broken_named : (lines : List (List ℕ)) (line last : List ℕ) → Refuses lines line refusals.Broken last → Names Broken (length lines + 1) last
broken_named [] line last p = absurd p
broken_named (first ∷ later) line last p = (p.3.breach, p.3.is)

counted : (status : Status) (lines : List (List ℕ)) (last : List ℕ) → Names status (length (map content_of lines) + 1) last →
    Names status (length lines + 1) last
counted status lines last names = subst (λ (n : ℕ). Names status (n + 1) last) (length-map lines content_of) names

by_refusal : (input text : List ℕ) (status : Status) (refusal : Refusal) (p : IsRefused meaning refusal (lines_of input) text) →
    Names status (length (map content_of p.before) + 1) p.last → ShowsFirst status input text
by_refusal input text status refusal p names = record {
  front = p.before;
  behind = p.line ∷ p.behind;
  written = p.written;
  last = p.last;
  divided = p.divided;
  is = p.is;
  names = counted status p.before p.last names;
  accepted = p.handled.accepted;
  shows = text_shows_the_pair (map content_of p.before) p.written p.handled.accepted;
}

by_size : (input text : List ℕ) → IsLarge meaning (lines_of input) text → ShowsFirst TooLarge input text
by_size input text p = record {
  front = p.before;
  behind = p.line ∷ p.behind;
  written = p.written;
  last = large_line (length p.before + 1);
  divided = p.divided;
  is = p.is;
  names = refl;
  accepted = p.handled.accepted;
  shows = text_shows_the_pair (map content_of p.before) p.written p.handled.accepted;
}

wholly : (input text : List ℕ) → IsWholly meaning (lines_of input) text → Accepts (map content_of (lines_of input)) text
wholly input text p =
    let is : text ≡ p.written = p.is ∙ ap (λ (l : List ℕ). p.written ++ l) p.closed ∙ append-nil p.written in
    subst (λ (t : List ℕ). Accepts (map content_of (lines_of input)) t) (sym is) p.handled.accepted

by_answer : (input : List ℕ) (status : Status) (text : List ℕ) → RecordsAnswer meaning (lines_of input) status text → ShowsBy status input text
by_answer input Done text p =
    let accepted = wholly input text p in
    (accepted, text_shows_the_pair (map content_of (lines_of input)) text accepted)
by_answer input BadTrace text p =
    by_refusal input text BadTrace refusals.BadTrace p (bad_named (map content_of p.before) (content_of p.line) p.last p.refused)
by_answer input Broken text p =
    by_refusal input text Broken refusals.Broken p (broken_named (map content_of p.before) (content_of p.line) p.last p.refused)
by_answer input TooLarge text (inl p) = by_size input text p
by_answer input TooLarge text (inr p) = absurd (never_barred (map content_of (lines_of input)) TooLarge p.last p.broken)
by_answer input BadCalib text p = absurd (never_barred (map content_of (lines_of input)) BadCalib p.last p.broken)
by_answer input _ text p = absurd p

-- each answer shows the state of both ends
pub answers_show_the_pair : AnswersShowThePair
answers_show_the_pair input status text answer = by_answer input status text answer.1

-- what is left of an answer that broke off
by_front : (input text : List ℕ) → StandsFirst meaning (lines_of input) text → ShowsFront input text
by_front input text (inl p) = record {
  front = p.front;
  behind = p.behind;
  divided = p.divided;
  accepted = p.handled.accepted;
  shows = text_shows_the_pair (map content_of p.front) text p.handled.accepted;
}
by_front input text (inr p) = absurd (never_barred (map content_of (lines_of input)) OutOfMemory p.last p.broken)

by_whole : (taken text : List ℕ) → CutHandled Accepts taken text → ShowsWhole taken text
by_whole taken text p = record {
  lines = p.lines;
  cut = p.cut;
  all = p.all;
  whole = p.whole;
  rest = p.plain;
  accepted = p.handled.accepted;
  shows = text_shows_the_pair (map content_of p.lines) text p.handled.accepted;
}

by_none : (input : List ℕ) → ShowsFront input []
by_none input = record {
  front = [];
  behind = lines_of input;
  divided = refl;
  accepted = refl;
  shows = text_shows_the_pair [] [] refl;
}

pub what_stands_shows_the_pair : WhatStandsShowsThePair
what_stands_shows_the_pair = record {
  first = λ input calls text at. by_front input text at.1;
  cut = λ taken text at. by_whole taken text at;
  none = by_none;
}
