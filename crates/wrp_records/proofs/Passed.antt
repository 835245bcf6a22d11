-- What the output is when the handling of lines ends, by all octets that come.
use Rattle.std.proofs.Common.{◌≡◌, ◌⊎◌, inl, inr, true, false, ℕ, Bool, Option, List, [], ◌∷◌, ◌++◌, refl, sym, subst, ap, ◌∙◌, append_assoc, append-nil}
use Rattle.std.specs.List.{concat}
use Rattle.std.specs.Io.KnownBytes.{Appends, Consumes, IsAtEnd}
use Rattle.wrp_records.specs.declared.machine.Refusal.{Refusal}
use Rattle.wrp_records.specs.declared.machine.Refusal.TheVariants as refusals
use Rattle.wrp_records.specs.declared.status.Status.{Status}
use Rattle.wrp_records.specs.declared.status.Status.TheVariants.{Done, BadTrace, Broken, ReadFault, WriteFault, TooLarge, OutOfMemory, BadCalib}
use Rattle.wrp_records.specs.After.{After, IsDue, IsFirst, StopsNear}
use Rattle.wrp_records.specs.ByLines.{LastRefused, LastRefusedAs, of_lines}
use Rattle.wrp_records.specs.LineMeaning.{LineMeaning}
use Rattle.wrp_records.specs.LinesAfter.{Closed, DueAt, LinesAfter}
use Rattle.wrp_records.specs.Passages.{FailsBy, IsSound, Passage, Passes}
use Rattle.wrp_records.specs.Lines.{lines_of}
use Rattle.wrp_records.specs.Reader.{ReaderAt}
use Rattle.wrp_io.specs.Faults.{Rose}
use Rattle.wrp_records.specs.Stream.{Handling, RefusedAt}
use Rattle.wrp_records.proofs.Feeds.{lines_of-open}
use Rattle.wrp_records.proofs.NextLines.{next_line}
use Rattle.wrp_records.proofs.Reaching.{lines_behind}
use Rattle.wrp_records.proofs.Telling.{done_told, refused_told, large_told, stands_told, broken_told, closed_so, outcome_after, nothing_handled}

-- the refused line is the last one of the octets up to its end
refused_last : (L : LineMeaning) (refusal : Refusal) (octets : List ℕ) (r : ReaderAt) (text : List ℕ) → (at : RefusedAt L.accepts L.refuses refusal octets r text)
    → LastRefused L refusal (concat at.lines ++ at.line)
refused_last L refusal octets r text at =
    let one : lines_of at.line ≡ at.line ∷ [] = elim at.next [
      | inl whole ↦ ap lines_of (sym (append-nil at.line)) ∙ next_line at.line [] (record { rest = []; ended = false }) (inl whole) (λ e. refl)
      | inr end ↦ lines_of-open at.line end.some end.plain
    ] in
    record {
      text = text;
      refused = record {
        before = at.lines;
        line = at.line;
        behind = [];
        written = at.before;
        last = at.last;
        divided = lines_behind at.lines at.line at.stands.whole ∙ ap (λ ls. at.lines ++ ls) one;
        handled = at.handled;
        within = at.within;
        number = at.number;
        refused = at.refused;
        is = at.is;
      };
      last = refl;
    }

-- at most one piece follows it
stops_near : (L : LineMeaning) (refusal : Refusal) (status : Status) (octets : List ℕ) (r : ReaderAt) (text : List ℕ) → (at : RefusedAt L.accepts L.refuses refusal octets r text)
    → (LastRefused L refusal (concat at.lines ++ at.line) → LastRefusedAs L status (concat at.lines ++ at.line)) → StopsNear (of_lines L) status octets
stops_near L refusal status octets r text at means = record {
  front = concat at.lines ++ at.line;
  past = r.rest;
  all = at.stands.all ∙ sym (append_assoc (concat at.lines) at.line r.rest);
  piece = at.stands.piece;
  refused = means (refused_last L refusal octets r text at);
}

-- what was expected when the sink failed
abbrev pub PartOf : LineMeaning → List ℕ → Bool → List ℕ → Type 0
PartOf L octets ended due = ((status : Status) × IsDue (of_lines L) octets ended [] status due) ⊎ IsFirst (of_lines L) octets ended [] due

part_of : (L : LineMeaning) (octets : List ℕ) (r : ReaderAt) (status : Status) (due : List ℕ) → DueAt L octets r status due → PartOf L octets r.ended due
part_of L octets r Done due at = inl (Done, λ more goes. (refl, done_told L octets r due at more goes))
part_of L octets r BadTrace due at = inl (BadTrace, λ more goes. (refl, refused_told L refusals.BadTrace octets r due at more goes))
part_of L octets r Broken due at = inl (Broken, λ more goes. (refl, refused_told L refusals.Broken octets r due at more goes))
part_of L octets r TooLarge due at = inl (TooLarge, λ more goes. (refl, large_told L octets r due at more goes))
part_of L octets r BadCalib due at = inl (BadCalib, λ more goes. (refl, broken_told L BadCalib octets r due at more goes))
part_of L octets r OutOfMemory due at = inr (λ more goes. (refl, stands_told L octets r due at more goes))
part_of L octets r _ due at = absurd at

-- what the output is
pub lines_passed : (L : LineMeaning) (octets : List ℕ) (r : ReaderAt) (status : Status) (text : List ℕ) → LinesAfter L octets r status text
    → (status ≡ ReadFault → r.ended ≡ false) → After (of_lines L) octets r.ended [] status text
lines_passed L octets r Done text at goes = (at.end.ended, (refl, at.wholly))
lines_passed L octets r BadTrace text at goes =
    (λ more on. (refl, refused_told L refusals.BadTrace octets r text at more on), stops_near L refusals.BadTrace BadTrace octets r text at (λ last. last))
lines_passed L octets r Broken text at goes =
    (λ more on. (refl, refused_told L refusals.Broken octets r text at more on), stops_near L refusals.Broken Broken octets r text at (λ last. last))
lines_passed L octets r TooLarge text at goes = λ more on. (refl, large_told L octets r text at more on)
lines_passed L octets r BadCalib text at goes = (at.end.ended, λ more on. (refl, broken_told L BadCalib octets r text at more on))
lines_passed L octets r OutOfMemory text at goes = λ more on. (refl, stands_told L octets r text at more on)
lines_passed L octets r ReadFault text at goes = (goes refl, refl, at)
lines_passed L octets r WriteFault text at goes = (at.1, at.2, at.4, part_of L octets r at.0 at.1 at.3)
lines_passed L octets r _ text at goes = absurd at

-- all lines were handled, and what follows them was written
pub passes_closed : (L : LineMeaning) (T : List (List ℕ) → Type 0) (source : Passage (List ℕ)) (held middle now : Option (List ℕ)) (faults faults_between faults_now : ℕ) (rest : List ℕ) (had_ended : Bool) (r : ReaderAt) (status : Status)
    → Handling L.accepts L.refuses T rest r source.before source.now held middle Done → Closed T L status middle now → (r.ended ≡ true → IsAtEnd source.now) → (had_ended ≡ true → r.ended ≡ true)
    → IsSound source → (status ≡ ReadFault → ⊥) → faults_between ≡ faults → (status ≡ WriteFault → Rose faults_between faults_now) → ((status ≡ WriteFault → ⊥) → faults_now ≡ faults_between)
    → Passes (of_lines L) source (record { before = held; now = now; faults = faults; faults_now = faults_now }) rest had_ended r.ended [] status
passes_closed L T source held middle now faults faults_between faults_now rest had_ended r status h how at_end stays sound never kept rose same =
    let all = closed_so L T rest h.given h.text source.before source.now held middle now r status h.taken h.written h.stands (h.done refl) how in
    record {
      given = all.0;
      octets = all.1;
      taken = all.2;
      wrote = all.3;
      stands = lines_passed L (rest ++ all.0) r status all.1 all.4 (λ is. absurd (never is));
      at_end = at_end;
      stays = stays;
      read = record { failed = λ is. absurd (never is); sound = λ other. sound };
      write = record { failed = λ is. subst (λ (n : ℕ). Rose n faults_now) kept (rose is); sound = λ other. same other ∙ kept };
    }

-- the handling of the lines ended before that
pub passes_stopped : (L : LineMeaning) (T : List (List ℕ) → Type 0) (source sink : Passage (List ℕ)) (rest : List ℕ) (had_ended : Bool) (r : ReaderAt) (status : Status)
    → Handling L.accepts L.refuses T rest r source.before source.now sink.before sink.now status → (status ≡ Done → ⊥) → (r.ended ≡ true → IsAtEnd source.now) → (had_ended ≡ true → r.ended ≡ true)
    → (status ≡ ReadFault → r.ended ≡ false) → FailsBy ReadFault status source → FailsBy WriteFault status sink → Passes (of_lines L) source sink rest had_ended r.ended [] status
passes_stopped L T source sink rest had_ended r status h other at_end stays goes read write = record {
  given = h.given;
  octets = h.text;
  taken = h.taken;
  wrote = h.written;
  stands = lines_passed L (rest ++ h.given) r status h.text (outcome_after L (rest ++ h.given) r status h.text h.stands other) goes;
  at_end = at_end;
  stays = stays;
  read = read;
  write = write;
}

-- nothing was taken or written, because memory ran out
pub passes_nothing : (L : LineMeaning) (source sink : Passage (List ℕ)) (rest : List ℕ) (ended : Bool) → L.accepts [] [] → Consumes source.before source.now [] → Appends sink.before sink.now []
    → (ended ≡ true → IsAtEnd source.now) → IsSound source → IsSound sink → Passes (of_lines L) source sink rest ended ended [] OutOfMemory
passes_nothing L source sink rest ended none taken wrote at_end read write = record {
  given = [];
  octets = [];
  taken = taken;
  wrote = wrote;
  stands = lines_passed L (rest ++ []) (record { rest = rest; ended = ended }) OutOfMemory [] (nothing_handled L (rest ++ []) (record { rest = rest; ended = ended }) none) (λ is. cc);
  at_end = at_end;
  stays = λ is. is;
  read = record { failed = λ is. cc; sound = λ other. read };
  write = record { failed = λ is. cc; sound = λ other. write };
}
