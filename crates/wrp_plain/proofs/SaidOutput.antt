-- What is expected for an input has such lines, wherever it ends.
use Rattle.std.proofs.Common.{◌≡◌, ◌∙◌, ap, sym, subst, refl, append-nil, inl, inr, ℕ, ℤ, pos, neg_ℤ, ◌+◌, ◌≤ℤ◌, ◌+ℤ◌, ◌-ℤ◌, unsigned_abs, List, [], ◌∷◌, ◌++◌, length, map, codes, arith}
use Rattle.std.proofs.lemmas.Int.{ints}
use Rattle.std.proofs.lemmas.List.{length-map}
use Rattle.std.specs.Fmt.{digits}
use Rattle.wrp_records.specs.declared.machine.Refusal.{Refusal}
use Rattle.wrp_records.specs.declared.machine.Refusal.TheVariants as refusals
use Rattle.wrp_records.specs.declared.status.Status.{Status}
use Rattle.wrp_records.specs.declared.status.Status.TheVariants.{Done, BadTrace, Broken, TooLarge, BadCalib}
use Rattle.wrp_records.specs.Lines.{content_of, lines_of}
use Rattle.wrp_records.specs.RecordsAnswer.{IsLarge, IsRefused, RecordsAnswer, StandsFirst}
use Rattle.wrp_records.specs.Stream.{CutHandled, large_line}
use Rattle.wrp_plain.specs.LineCourse.{PlainAccepts, PlainRefuses, plain_meaning}
use Rattle.wrp_plain.specs.LineText.{events_text}
use Rattle.wrp_plain.specs.Said.{AreSaidTruly, Names, OutputHoldsUntilTick, WritesBy, WritesFirst, WritesFront, WritesTruly, WritesWhole, said_text, worked_said}
use Rattle.wrp_plain.proofs.LineRanges.{start_ranges}
use Rattle.wrp_plain.proofs.Steering.{step_against}
use Rattle.wrp_plain.proofs.Saying.{all_truly, events_written, nothing_stays, said_onto}

-- what records write
writes_truly : (lines : List (List ℕ)) (text : List ℕ) → PlainAccepts lines text → WritesTruly lines text
writes_truly [] text accepted = accepted
writes_truly (first ∷ lines) text (start, events, course, wrote) =
    let ranges = start_ranges first start course.starts in (
      start,
      said_onto start.set start.off events [],
      course.starts,
      wrote ∙ sym (events_written start.set start.off events ranges course.kept [] ∙ append-nil (events_text start.set start.off events)),
      all_truly start.set start.off events [] ranges course.kept (nothing_stays start.set start.off events) tt,
    )

-- a refusal names its record
trace_named : (lines : List (List ℕ)) (line last : List ℕ) → PlainRefuses lines line refusals.BadTrace last → Names BadTrace (length lines + 1) last
trace_named [] line last refused = (refused.0, refused.2)
trace_named (first ∷ later) line last refused = (refused.0, refused.2)

broken_named : (lines : List (List ℕ)) (line last : List ℕ) → PlainRefuses lines line refusals.Broken last → Names Broken (length lines + 1) last
broken_named [] line last refused = absurd refused
broken_named (first ∷ later) line last refused = (refused.broken, refused.is)

counted : (status : Status) (lines : List (List ℕ)) (last : List ℕ) → Names status (length (map content_of lines) + 1) last →
    Names status (length lines + 1) last
counted status lines last names = subst (λ (n : ℕ). Names status (n + 1) last) (length-map lines content_of) names

by_refusal : (input octets : List ℕ) (status : Status) (refusal : Refusal) (due : IsRefused plain_meaning refusal (lines_of input) octets) →
    Names status (length (map content_of due.before) + 1) due.last → WritesFirst status input octets
by_refusal input octets status refusal due names = record {
  front = due.before;
  behind = due.line ∷ due.behind;
  written = due.written;
  last = due.last;
  divided = due.divided;
  is = due.is;
  names = counted status due.before due.last names;
  writes = writes_truly (map content_of due.before) due.written due.handled.accepted;
}

by_size : (input octets : List ℕ) → IsLarge plain_meaning (lines_of input) octets → WritesFirst TooLarge input octets
by_size input octets due = record {
  front = due.before;
  behind = due.line ∷ due.behind;
  written = due.written;
  last = large_line (length due.before + 1);
  divided = due.divided;
  is = due.is;
  names = refl;
  writes = writes_truly (map content_of due.before) due.written due.handled.accepted;
}

by_answer : (input : List ℕ) (status : Status) (octets : List ℕ) → RecordsAnswer plain_meaning (lines_of input) status octets → WritesBy status input octets
by_answer input Done octets due =
    let is : octets ≡ due.written = due.is ∙ ap (λ (l : List ℕ). due.written ++ l) due.closed ∙ append-nil due.written in
    subst (WritesTruly (map content_of (lines_of input))) (sym is) (writes_truly (map content_of (lines_of input)) due.written due.handled.accepted)
by_answer input BadTrace octets due =
    by_refusal input octets BadTrace refusals.BadTrace due (trace_named (map content_of due.before) (content_of due.line) due.last due.refused)
by_answer input Broken octets due =
    by_refusal input octets Broken refusals.Broken due (broken_named (map content_of due.before) (content_of due.line) due.last due.refused)
by_answer input TooLarge octets (inl due) = by_size input octets due
by_answer input TooLarge octets (inr due) = absurd due.broken
by_answer input BadCalib octets due = absurd due.broken
by_answer input _ octets due = absurd due

by_front : (input octets : List ℕ) → StandsFirst plain_meaning (lines_of input) octets → WritesFront input octets
by_front input octets (inl due) = record {
  front = due.front;
  behind = due.behind;
  divided = due.divided;
  writes = writes_truly (map content_of due.front) octets due.handled.accepted;
}
by_front input octets (inr due) = absurd due.broken

by_whole : (taken octets : List ℕ) → CutHandled PlainAccepts taken octets → WritesWhole taken octets
by_whole taken octets due = record {
  lines = due.lines;
  cut = due.cut;
  all = due.all;
  whole = due.whole;
  rest = due.plain;
  writes = writes_truly (map content_of due.lines) octets due.handled.accepted;
}

-- the worked lines
worked_text : said_text (worked_said (neg_ℤ (pos 101)))
    ≡ codes "0 plain 600 101 true 500" ++ 10 ∷ (codes "0 step -600" ++ 10 ∷ (codes "1 plain 0 200 true -101" ++ 10 ∷ []))
unfolding digits
worked_text = refl

worked_within : AreSaidTruly (pos 1000000) (worked_said (neg_ℤ (pos 101)))
worked_within = (
  record {
    within = omega (arith, ints);
    steps = inr (step_against (pos 1000000) (pos 600) (omega (arith, ints)));
    left = λ e. omega (arith, ints);
    stays = (omega (arith, ints), λ e. tt);
  },
  (record { within = omega (arith, ints); steps = inl refl; left = λ e. omega (arith, ints); stays = tt }, tt),
)

too_far : pos (unsigned_abs ((pos 600 +ℤ neg_ℤ (pos 600)) -ℤ neg_ℤ (pos 102))) ≤ℤ pos 101 → ⊥
too_far h = omega (arith, ints)

-- whatever the input is
pub output_holds_until_tick_holds : OutputHoldsUntilTick
output_holds_until_tick_holds = record {
  answers = λ input calls status octets due. by_answer input status octets due.1;
  first = λ input calls octets due. by_front input octets due.1;
  cut = by_whole;
  none = λ input. record { front = []; behind = lines_of input; divided = refl; writes = refl };
  worked = record { text = worked_text; within = worked_within; beyond = λ said. too_far said.0.stays.0 };
}
