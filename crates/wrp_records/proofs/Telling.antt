-- What the output is when the handling of records ends, by the whole input.
use Rattle.std.proofs.Common.{◌≡◌, ◌⊎◌, inl, inr, true, false, ℕ, ◌+◌, ◌≤◌, ◌==◌, Option, List, [], ◌∷◌, ◌++◌, length, map, take, refl, sym, ap, ◌∙◌, subst, append_assoc, append-nil, arith}
use Rattle.std.specs.List.{concat}
use Rattle.std.specs.Io.KnownBytes.{Appends, Consumes}
use Rattle.std.proofs.KnownBytes.{Appends-trans}
use Rattle.wrp_records.specs.declared.machine.Refusal.{Refusal}
use Rattle.wrp_records.specs.declared.status.Status.{Status}
use Rattle.wrp_records.specs.declared.status.Status.TheVariants.{Done, BadTrace, Broken, ReadFault, WriteFault, TooLarge, OutOfMemory, BadCalib}
use Rattle.wrp_records.specs.LinesAfter.{BrokenAt, Closed, ClosesWith, DoneAt, DueAt, LinesAfter}
use Rattle.wrp_records.specs.Engine.{Finishes}
use Rattle.wrp_records.specs.Lines.{lines_of, onto, content_of, HasNoFeed}
use Rattle.wrp_records.specs.LineMeaning.{LineMeaning}
use Rattle.wrp_records.specs.Reader.{ReaderAt, IsLast}
use Rattle.wrp_records.specs.RecordsAnswer.{BreaksOff, IsWholly, IsRefused, IsLarge, RecordsAnswer, AreFirst, StandsFirst}
use Rattle.wrp_records.specs.Stream.{Handles, size_of, RefusedAt, TooLargeAt, Due, Outcome, FirstHandled}
use Rattle.wrp_records.proofs.Feeds.{size_plain}
use Rattle.wrp_records.proofs.NextLines.{next_line, cut_line}
use Rattle.wrp_records.proofs.Reaching.{lines_behind, take_two}

-- a cut line that continues has at least the octets it had
size_grows : (cut tail : List ℕ) → HasNoFeed cut → length cut ≤ size_of (cut ++ tail)
size_grows [] tail plain = omega arith
size_grows (octet ∷ cut) tail plain =
    let other : (octet == 10) ≡ false = plain.0 in
    let later : length cut ≤ size_of (cut ++ tail) = size_grows cut tail plain.1 in
    simp other (omega arith)

-- a refused line
pub refused_told : (M : LineMeaning) (refusal : Refusal) (octets : List ℕ) (r : ReaderAt) (text : List ℕ) → RefusedAt M.accepts M.refuses refusal octets r text
    → (more : List ℕ) → (r.ended ≡ true → more ≡ []) → IsRefused M refusal (lines_of (octets ++ more)) text
refused_told M refusal octets r text at more goes = record {
  before = at.lines;
  line = at.line;
  behind = lines_of (r.rest ++ more);
  written = at.before;
  last = at.last;
  divided = ap (λ l. lines_of (l ++ more)) at.stands.all ∙ ap lines_of (append_assoc (concat at.lines) (at.line ++ r.rest) more)
      ∙ ap (λ l. lines_of (concat at.lines ++ l)) (append_assoc at.line r.rest more)
      ∙ lines_behind at.lines (at.line ++ (r.rest ++ more)) at.stands.whole ∙ ap (λ ls. at.lines ++ ls) (next_line at.line more r at.next goes);
  handled = at.handled;
  within = at.within;
  number = at.number;
  refused = at.refused;
  is = at.is;
}

-- a line that is too large
pub too_large_told : (M : LineMeaning) (octets : List ℕ) (r : ReaderAt) (text : List ℕ) → TooLargeAt M.accepts octets r text
    → (more : List ℕ) → (r.ended ≡ true → more ≡ []) → IsLarge M (lines_of (octets ++ more)) text
too_large_told M octets r text at more goes =
    let front : lines_of (octets ++ more) ≡ at.lines ++ lines_of (at.line ++ (r.rest ++ more)) =
    ap (λ l. lines_of (l ++ more)) at.all ∙ ap lines_of (append_assoc (concat at.lines) (at.line ++ r.rest) more)
    ∙ ap (λ l. lines_of (concat at.lines ++ l)) (append_assoc at.line r.rest more) ∙ lines_behind at.lines (at.line ++ (r.rest ++ more)) at.whole in
    elim at.next [
      | inl next ↦ record {
        before = at.lines;
        line = at.line;
        behind = lines_of (r.rest ++ more);
        written = at.before;
        divided = front ∙ ap (λ ls. at.lines ++ ls) (next_line at.line more r next goes);
        handled = at.handled;
        large = at.large;
        is = at.is;
      }
      | inr cut ↦
          let on = cut_line at.line (r.rest ++ more) cut.plain at.some in
          let grows : length at.line ≤ size_of (at.line ++ on.0) = size_grows at.line on.0 cut.plain in
          let same : size_of at.line ≡ length at.line = size_plain at.line cut.plain in
          record {
            before = at.lines;
            line = at.line ++ on.0;
            behind = on.1;
            written = at.before;
            divided = front ∙ ap (λ ls. at.lines ++ ls) on.2;
            handled = at.handled;
            large = elim at.large [ inl long ↦ inl (omega (arith, same, grows, long)) | inr last ↦ inr last ];
            is = at.is;
          }
    ]

-- some first lines
pub first_told : (M : LineMeaning) (octets : List ℕ) (r : ReaderAt) (text : List ℕ) → FirstHandled M.accepts octets r text
    → (more : List ℕ) → (r.ended ≡ true → more ≡ []) → AreFirst M (lines_of (octets ++ more)) text
first_told M octets r text at more goes =
    elim at.first [
      | inl whole ↦ record {
        front = at.lines;
        behind = lines_of (at.more ++ more);
        divided = ap (λ l. lines_of (l ++ more)) at.all ∙ ap lines_of (append_assoc (concat at.lines) at.more more) ∙ lines_behind at.lines (at.more ++ more) whole;
        handled = at.handled;
      }
      | inr end ↦ record {
        front = at.lines;
        behind = [];
        divided = ap lines_of (ap (λ l. octets ++ l) (goes end.0) ∙ append-nil octets) ∙ end.2 ∙ sym (append-nil at.lines);
        handled = at.handled;
      }
    ]

-- all lines to the end
pub done_told : (M : LineMeaning) (octets : List ℕ) (r : ReaderAt) (text : List ℕ) → DoneAt M octets r text
    → (more : List ℕ) → (r.ended ≡ true → more ≡ []) → IsWholly M (lines_of (octets ++ more)) text
done_told M octets r text at more goes =
    let same : lines_of octets ≡ lines_of (octets ++ more) = ap lines_of (sym (ap (λ l. octets ++ l) (goes at.end.ended) ∙ append-nil octets)) in
    subst (λ (ls : List (List ℕ)). IsWholly M ls text) same at.wholly

-- what breaks off after all lines
pub broken_told : (M : LineMeaning) (status : Status) (octets : List ℕ) (r : ReaderAt) (text : List ℕ) → BrokenAt M octets r status text
    → (more : List ℕ) → (r.ended ≡ true → more ≡ []) → BreaksOff M status (lines_of (octets ++ more)) text
broken_told M status octets r text at more goes =
    let same : lines_of octets ≡ lines_of (octets ++ more) = ap lines_of (sym (ap (λ l. octets ++ l) (goes at.end.ended) ∙ append-nil octets)) in
    subst (λ (ls : List (List ℕ)). BreaksOff M status ls text) same at.breaks

pub large_told : (M : LineMeaning) (octets : List ℕ) (r : ReaderAt) (text : List ℕ) → TooLargeAt M.accepts octets r text ⊎ BrokenAt M octets r TooLarge text
    → (more : List ℕ) → (r.ended ≡ true → more ≡ []) → RecordsAnswer M (lines_of (octets ++ more)) TooLarge text
large_told M octets r text (inl at) more goes = inl (too_large_told M octets r text at more goes)
large_told M octets r text (inr at) more goes = inr (broken_told M TooLarge octets r text at more goes)

pub stands_told : (M : LineMeaning) (octets : List ℕ) (r : ReaderAt) (text : List ℕ) → FirstHandled M.accepts octets r text ⊎ BrokenAt M octets r OutOfMemory text
    → (more : List ℕ) → (r.ended ≡ true → more ≡ []) → StandsFirst M (lines_of (octets ++ more)) text
stands_told M octets r text (inl at) more goes = inl (first_told M octets r text at more goes)
stands_told M octets r text (inr at) more goes = inr (broken_told M OutOfMemory octets r text at more goes)

-- what is expected before the end
due_before : (M : LineMeaning) (octets : List ℕ) (r : ReaderAt) (status : Status) (text : List ℕ) → Due M.accepts M.refuses octets r status text → DueAt M octets r status text
due_before M octets r Done text at = absurd at
due_before M octets r BadTrace text at = at
due_before M octets r Broken text at = at
due_before M octets r TooLarge text at = inl at
due_before M octets r OutOfMemory text at = inl at
due_before M octets r _ text at = absurd at

-- what the output is before the end
pub outcome_after : (M : LineMeaning) (octets : List ℕ) (r : ReaderAt) (status : Status) (text : List ℕ) → Outcome M.accepts M.refuses octets r status text
    → (status ≡ Done → ⊥) → LinesAfter M octets r status text
outcome_after M octets r Done text at other = absurd (other refl)
outcome_after M octets r WriteFault text at other = (at.0, at.1, at.2, due_before M octets r at.0 at.1 at.3, at.4)
outcome_after M octets r BadTrace text at other = at
outcome_after M octets r Broken text at other = at
outcome_after M octets r TooLarge text at other = inl at
outcome_after M octets r ReadFault text at other = at
outcome_after M octets r OutOfMemory text at other = inl at
outcome_after M octets r _ text at other = absurd at

-- all lines of some octets are these octets
onto_all : (octet : ℕ) (lines : List (List ℕ)) → concat (onto octet lines) ≡ octet ∷ concat lines
onto_all octet [] = refl
onto_all octet (line ∷ lines) = refl

pub all_lines : (octets : List ℕ) → concat (lines_of octets) ≡ octets
all_lines [] = refl
all_lines (octet ∷ octets) =
    elim (octet == 10) as (λ b. (octet == 10) ≡ b → concat (lines_of (octet ∷ octets)) ≡ octet ∷ octets) [
      | true ↦ λ is. simp is (ap (λ l. octet ∷ l) (all_lines octets))
      | false ↦ λ is. simp is (onto_all octet (lines_of octets) ∙ ap (λ l. octet ∷ l) (all_lines octets))
    ] refl

-- all handled lines are some first lines
pub all_first : (M : LineMeaning) (octets : List ℕ) (r : ReaderAt) (text : List ℕ) → IsLast r × Handles M.accepts (lines_of octets) text → FirstHandled M.accepts octets r text
all_first M octets r text at = record {
  lines = lines_of octets;
  more = [];
  all = sym (append-nil (concat (lines_of octets)) ∙ all_lines octets);
  first = inr (at.0.ended, refl, refl);
  handled = at.1;
}

-- at the end of the input
pub at_end_done : (M : LineMeaning) (octets : List ℕ) (r : ReaderAt) (written last : List ℕ) → IsLast r × Handles M.accepts (lines_of octets) written
    → M.closes (map content_of (lines_of octets)) last → DoneAt M octets r (written ++ last)
at_end_done M octets r written last at closed = record {
  end = at.0;
  wholly = record { written = written; last = last; handled = at.1; closed = closed; is = refl };
}

-- if the last lines are written, or a part of them
pub at_end_answered : (M : LineMeaning) (end : Status) (rest given : List ℕ) (first last held now then_ : Option (List ℕ)) (r : ReaderAt) (written text : List ℕ) (status : Status)
    → Consumes first last given → Appends held now written → DueAt M (rest ++ given) r end (written ++ text) → LinesAfter M (rest ++ given) r end (written ++ text) → Finishes end status now then_ text
    → (g : List ℕ) × (octets : List ℕ) × Consumes first last g × Appends held then_ octets × LinesAfter M (rest ++ g) r status octets
at_end_answered M end rest given first last held now then_ r written text status taken wrote due stands how =
    elim how [
      | inl all ↦ (
        given,
        written ++ text,
        taken,
        Appends-trans held now then_ written text wrote all.1,
        subst (λ (s : Status). LinesAfter M (rest ++ given) r s (written ++ text)) (sym all.0) stands,
      )
      | inr part ↦ (
        given,
        written ++ take part.1.0 text,
        taken,
        Appends-trans held now then_ written (take part.1.0 text) wrote part.1.1,
        subst (λ (s : Status). LinesAfter M (rest ++ given) r s (written ++ take part.1.0 text)) (sym part.0)
            (end, written ++ text, length written + part.1.0, due, take_two written text part.1.0),
      )
    ]

-- what closes the records, with its status, is expected after what they write
with_status : (M : LineMeaning) (octets : List ℕ) (r : ReaderAt) (written last : List ℕ) (end : Status) → IsLast r × Handles M.accepts (lines_of octets) written
    → ClosesWith M end (map content_of (lines_of octets)) last → DueAt M octets r end (written ++ last) × LinesAfter M octets r end (written ++ last)
with_status M octets r written last Done at closing = (at_end_done M octets r written last at closing, at_end_done M octets r written last at closing)
with_status M octets r written last TooLarge at closing =
    let breaks : BrokenAt M octets r TooLarge (written ++ last) = record { end = at.0; breaks = record { written = written; last = last; handled = at.1; broken = closing; is = refl } } in
    (inr breaks, inr breaks)
with_status M octets r written last OutOfMemory at closing =
    let breaks : BrokenAt M octets r OutOfMemory (written ++ last) = record { end = at.0; breaks = record { written = written; last = last; handled = at.1; broken = closing; is = refl } } in
    (inr breaks, inr breaks)
with_status M octets r written last BadCalib at closing =
    let breaks : BrokenAt M octets r BadCalib (written ++ last) = record { end = at.0; breaks = record { written = written; last = last; handled = at.1; broken = closing; is = refl } } in
    (breaks, breaks)
with_status M octets r written last _ at closing = absurd closing

-- if what closes the records is written, whole or as far as it goes, or a part of that
pub closed_so : (M : LineMeaning) (T : List (List ℕ) → Type 0) (rest given written : List ℕ) (first last held mid now : Option (List ℕ)) (r : ReaderAt) (status : Status)
    → Consumes first last given → Appends held mid written → IsLast r × Handles M.accepts (lines_of (rest ++ given)) written → T (map content_of (lines_of (rest ++ given)))
    → Closed T M status mid now
    → (g : List ℕ) × (octets : List ℕ) × Consumes first last g × Appends held now octets × LinesAfter M (rest ++ g) r status octets
closed_so M T rest given written first last held mid now r status taken wrote stands has (inl (memory, same)) = (
  given,
  written,
  taken,
  subst (λ (k : Option (List ℕ)). Appends held k written) (sym same) wrote,
  subst (λ (s : Status). LinesAfter M (rest ++ given) r s written) (sym memory) (inl (all_first M (rest ++ given) r written stands)),
)
closed_so M T rest given written first last held mid now r status taken wrote stands has (inr how) =
    let due = with_status M (rest ++ given) r written how.1 how.0 stands (how.2 (map content_of (lines_of (rest ++ given))) has) in
    at_end_answered M how.0 rest given first last held mid now r written how.1 status taken wrote due.0 due.1 how.3

-- if nothing was handled because memory ran out
pub nothing_handled : (M : LineMeaning) (octets : List ℕ) (r : ReaderAt) → M.accepts [] [] → LinesAfter M octets r OutOfMemory []
nothing_handled M octets r none = inl (record {
  lines = [];
  more = octets;
  all = refl;
  first = inl tt;
  handled = record { sizes = tt; count = omega arith; accepted = none };
})
