-- Each line that is expected for an input is true if it reports.
use Rattle.std.proofs.Common.{◌≡◌, refl, sym, subst, append_assoc, append-nil, inl, inr, ℕ, ℤ, ◌+◌, ◌==◌, List, [], ◌∷◌, ◌++◌, codes, length, map, Option, None, Some}
use Rattle.std.specs.Prelude.{IfSome}
use Rattle.std.specs.Fmt.{decimal, signed_decimal}
use Rattle.wrp_base.specs.declared.fault.TraceFault.{TraceFault}
use Rattle.wrp_records.specs.declared.machine.Refusal.{Refusal}
use Rattle.wrp_records.specs.declared.machine.Refusal.TheVariants as refusals
use Rattle.wrp_records.specs.declared.status.Status.{Status}
use Rattle.wrp_records.specs.declared.status.Status.TheVariants.{Done, BadTrace, Broken, TooLarge, BadCalib}
use Rattle.wrp_records.specs.Lines.{IsWhole, content_of, lines_of}
use Rattle.wrp_records.specs.RecordsAnswer.{RecordsAnswer, StandsFirst}
use Rattle.wrp_records.specs.Refusals.{bad_trace_line}
use Rattle.wrp_records.specs.Stream.{large_line}
use Rattle.wrp_plain.specs.declared.event.PlainBroken.{PlainBroken}
use Rattle.wrp_plain.specs.declared.event.PlainEvent.{PlainEvent}
use Rattle.wrp_plain.specs.declared.settings.PlainReport.{PlainReport}
use Rattle.wrp_plain.specs.declared.settings.PlainSet.{PlainSet}
use Rattle.wrp_plain.specs.LineCourse.{PlainAccepts, PlainRefuses, plain_meaning}
use Rattle.wrp_plain.specs.LineText.{broken_line, event_text, events_text, premise_name, tick_count}
use Rattle.wrp_plain.specs.LineTruth.{AllAreWithin, AreTrue, OutputTellsTruth, Says}
use Rattle.wrp_plain.specs.Seen.{seen_of}
use Rattle.wrp_records.specs.Words.{IsWord}
use Rattle.wrp_records.proofs.WordLemmas.{decimal_word, either_word, large_line_whole, line_in_front, line_whole, signed_word, trace_line_whole}
use Rattle.wrp_plain.proofs.LineWords.{says_none}
use Rattle.wrp_plain.proofs.LinesTrue.{records_tell_truth_holds, seen_in_front}

-- a report of which nothing more is asked
abbrev IsAny : PlainReport → Type 0
IsAny report = Unit {0}

any_so : (o : Option PlainReport) → IfSome o IsAny
any_so None = tt
any_so (Some report) = tt

-- What records write

-- the lines of true events, in front of lines that are true
events_in_front : (set : PlainSet) (off : ℤ) (events : List PlainEvent) (rest : List ℕ) → AreTrue set off events → AllAreWithin rest → AllAreWithin (events_text set off events ++ rest)
events_in_front set off [] rest true_ behind = behind
events_in_front set off (event ∷ before) rest true_ behind =
    subst AllAreWithin (sym (append_assoc (events_text set off before) (event_text set off before event) rest))
    (events_in_front set off before (event_text set off before event ++ rest) true_.1
    (seen_in_front IsAny (tick_count (event ∷ before)) (seen_of set off before event) rest true_.0.tells.within (any_so (seen_of set off before event).report) behind))

-- so are the lines of records
records_in_front : (lines : List (List ℕ)) (written rest : List ℕ) → PlainAccepts lines written → AllAreWithin rest → AllAreWithin (written ++ rest)
records_in_front [] written rest accepted behind = subst (λ (l : List ℕ). AllAreWithin (l ++ rest)) (sym accepted) behind
records_in_front (first ∷ lines) written rest accepted behind =
    subst (λ (l : List ℕ). AllAreWithin (l ++ rest)) (sym accepted.3)
    (events_in_front accepted.0.set accepted.0.off accepted.1 rest (records_tell_truth_holds first lines accepted.0 accepted.1 accepted.2) behind)

-- What names a refusal

-- a line by itself
alone : (line : List ℕ) → IsWhole line → Says IsAny line → AllAreWithin line
alone line whole says = subst AllAreWithin (append-nil line) (line_in_front (Says IsAny) line [] whole says tt)

trace_so : (number : ℕ) (fault : TraceFault) → AllAreWithin (bad_trace_line number fault)
trace_so number fault =
    alone (bad_trace_line number fault) (trace_line_whole number fault) (λ tick est bound off h k l m e. absurd (says_none 98 _ tick _ refl refl h e))

premise_word : (premise : ℕ) → IsWord (premise_name premise)
unfolding premise_name
premise_word n =
    either_word (n == 1) (codes "TickLate") _ refl
    (either_word (n == 2) (codes "Rate") _ refl
    (either_word (n == 3) (codes "Span") _ refl
    (either_word (n == 4) (codes "Least") _ refl
    (either_word (n == 5) (codes "Move") _ refl
    (either_word (n == 6) (codes "Stamp") [] refl refl)))))

broken_so : (number : ℕ) (broken : PlainBroken) → AllAreWithin (broken_line number broken)
broken_so number broken =
    alone (broken_line number broken)
    (line_whole (codes "broken" ∷ decimal number ∷ decimal broken.premise ∷ premise_name broken.premise ∷ signed_decimal broken.shown ∷ signed_decimal broken.bound ∷ [])
    (refl, (decimal_word number, (decimal_word broken.premise, (premise_word broken.premise, (signed_word broken.shown, (signed_word broken.bound, tt)))))))
    (λ tick est bound off h k l m e. absurd (says_none 98 _ tick _ refl refl h e))

large_so : (number : ℕ) → AllAreWithin (large_line number)
large_so number = alone (large_line number) (large_line_whole number) (λ tick est bound off h k l m e. absurd (says_none 116 _ tick _ refl refl h e))

refusal_so : (lines : List (List ℕ)) (line last : List ℕ) (refusal : Refusal) → PlainRefuses lines line refusal last → AllAreWithin last
refusal_so [] line last refusals.BadTrace refused = subst AllAreWithin (sym refused.2) (trace_so 1 refused.0)
refusal_so [] line last refusals.Broken refused = absurd refused
refusal_so (first ∷ lines) line last refusals.BadTrace refused = subst AllAreWithin (sym refused.2) (trace_so (length (first ∷ lines) + 1) refused.0)
refusal_so (first ∷ lines) line last refusals.Broken refused = subst AllAreWithin (sym refused.is) (broken_so (length (first ∷ lines) + 1) refused.broken)

-- All

both_so : (lines : List (List ℕ)) (octets written last : List ℕ) → octets ≡ written ++ last → PlainAccepts lines written → AllAreWithin last → AllAreWithin octets
both_so lines octets written last is accepted so = subst AllAreWithin (sym is) (records_in_front lines written last accepted so)

answer_so : (lines : List (List ℕ)) (status : Status) (text : List ℕ) → RecordsAnswer plain_meaning lines status text → AllAreWithin text
answer_so lines Done text due = both_so (map content_of lines) text due.written due.last due.is due.handled.accepted (subst AllAreWithin (sym due.closed) tt)
answer_so lines BadTrace text due =
    both_so (map content_of due.before) text due.written due.last due.is due.handled.accepted (refusal_so (map content_of due.before) (content_of due.line) due.last refusals.BadTrace due.refused)
answer_so lines Broken text due =
    both_so (map content_of due.before) text due.written due.last due.is due.handled.accepted (refusal_so (map content_of due.before) (content_of due.line) due.last refusals.Broken due.refused)
answer_so lines TooLarge text (inl due) =
    both_so (map content_of due.before) text due.written (large_line (length due.before + 1)) due.is due.handled.accepted (large_so (length due.before + 1))
answer_so lines TooLarge text (inr due) = absurd due.broken
answer_so lines BadCalib text due = absurd due.broken
answer_so lines _ text due = absurd due

records_so : (lines : List (List ℕ)) (text : List ℕ) → PlainAccepts lines text → AllAreWithin text
records_so lines text accepted = subst AllAreWithin (append-nil text) (records_in_front lines text [] accepted tt)

first_so : (lines : List (List ℕ)) (text : List ℕ) → StandsFirst plain_meaning lines text → AllAreWithin text
first_so lines text (inl due) = records_so (map content_of due.front) text due.handled.accepted
first_so lines text (inr due) = absurd due.broken

-- whatever the input is
pub output_tells_truth_holds : OutputTellsTruth
output_tells_truth_holds = (
  (λ octets calls status text due. answer_so (lines_of octets) status text due.1),
  (λ octets calls text due. first_so (lines_of octets) text due.1),
  (λ octets text due. records_so (map content_of due.lines) text due.handled.accepted),
)
