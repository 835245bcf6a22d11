-- What the records of an audit write, whole or the inputs of a node, is what is written of their events, and what
-- follows it, by the status.
use Rattle.std.proofs.Common.{◌≡◌, inl, inr, ◌∙◌, refl, ap, sym, ℕ, ◌+◌, List, [], ◌∷◌, ◌++◌, append-nil, append_assoc, length, map}
use Rattle.std.specs.List.{concat}
use Rattle.wrp_course.specs.Run.{Happened, world_after}
use Rattle.wrp_course.specs.Setting.{Setting}
use Rattle.wrp_records.specs.declared.machine.Refusal.{Refusal}
use Rattle.wrp_records.specs.declared.machine.Refusal.TheVariants as refusals
use Rattle.wrp_records.specs.declared.status.Status.{Status}
use Rattle.wrp_records.specs.declared.status.Status.TheVariants.{Done, BadTrace, Broken, ReadFault, TooLarge, OutOfMemory, BadCalib}
use Rattle.wrp_audit.specs.Audited.{IsAudit}
use Rattle.wrp_audit.specs.AuditLaws.{OneAudit}
use Rattle.wrp_audit.specs.Audits.{AuditRefuses, audit_of, emission_of}
use Rattle.wrp_audit.specs.AuditText.{audit_lines, given_lines}
use Rattle.wrp_network_world.specs.Counts.{all_counts}
use Rattle.wrp_asked.specs.Headline.{EndsEvents}
use Rattle.wrp_asked.specs.Input.{Divides, behind_separator, network_text}
use Rattle.wrp_records.specs.Lines.{content_of, lines_of}
use Rattle.wrp_records.specs.LineMeaning.{LineMeaning}
use Rattle.wrp_records.specs.RecordsAnswer.{AreFirst, IsLarge, IsRefused, IsWholly, RecordsAnswer, StandsFirst}
use Rattle.wrp_records.specs.Stream.{CutHandled, large_line}
use Rattle.wrp_records.proofs.Reaching.{lines_behind}
use Rattle.wrp_records.proofs.Unique.{never_barred}

-- What is written

-- of the events this is written, and this after all of them
pub record Writes : Type 0 where
  pub text : List Happened → List ℕ
  pub counts : List Happened → List ℕ

-- the records mean events of a network, of which that is written
pub record MeansEvents (s : Setting) (M : LineMeaning) (w : Writes) : Type 0 where
  pub accepts : (lines : List (List ℕ)) (t : List ℕ) → M.accepts lines t → (events : List Happened) × IsAudit s lines events × (t ≡ w.text events)
  pub refuses :
      (lines : List (List ℕ)) (line : List ℕ) (refusal : Refusal) (last : List ℕ) → M.refuses lines line refusal last → AuditRefuses s lines line refusal last
  pub closes : (lines : List (List ℕ)) (events : List Happened) (last : List ℕ) → IsAudit s lines events → M.closes lines last → last ≡ w.counts events
  pub never : (lines : List (List ℕ)) (status : Status) (t : List ℕ) → M.breaks_off lines status t → ⊥

-- an audit writes the lines of all steps, and the counters; of the inputs of a node these
abbrev pub audit_writes : Setting → Writes
audit_writes s = record { text = audit_lines s; counts = λ events. all_counts s (world_after s events) }

abbrev pub emission_writes : Setting → ℕ → Writes
emission_writes s n = record { text = given_lines s n; counts = λ events. [] }

pub audit_means : OneAudit → (s : Setting) → MeansEvents s (audit_of s) (audit_writes s)
audit_means one s = record {
  accepts = λ lines t h. h;
  refuses = λ lines line refusal last h. h;
  closes = λ lines events last audit h. h.2 ∙ (one s lines h.0 events h.1 audit).counts;
  never = never_barred;
}

pub emission_means : (s : Setting) (n : ℕ) → MeansEvents s (emission_of s n) (emission_writes s n)
emission_means s n = record {
  accepts = λ lines t h. h;
  refuses = λ lines line refusal last h. h;
  closes = λ lines events last audit h. h;
  never = never_barred;
}

-- Records

-- the first records of an input say these events; this is written of them and after them
pub record AreTold (input : List ℕ) (s : Setting) (w : Writes) (status : Status) (octets : List ℕ) : Type 0 where
  pub events : List Happened
  pub front : List (List ℕ)
  pub behind : List (List ℕ)
  pub divided : behind_separator (lines_of input) ≡ front ++ behind
  pub audit : IsAudit s (map content_of front) events
  pub last : List ℕ
  pub ends : EndsEvents status s front behind (w.counts events) last
  pub is : octets ≡ w.text events ++ last

-- what the first records write, and what follows it
in_front : (front text last octets : List ℕ) → octets ≡ front ++ last → front ≡ text → octets ≡ text ++ last
in_front front text last octets is same = is ∙ ap (λ (l : List ℕ). l ++ last) same

wholly : (input octets : List ℕ) (s : Setting) (M : LineMeaning) (w : Writes) → MeansEvents s M w → IsWholly M (behind_separator (lines_of input)) octets
    → AreTold input s w Done octets
wholly input octets s M w means h =
    let told = means.accepts _ h.written h.handled.accepted in
    record {
      events = told.0;
      front = behind_separator (lines_of input);
      behind = [];
      divided = sym (append-nil (behind_separator (lines_of input)));
      audit = told.1;
      last = h.last;
      ends = (refl, means.closes (map content_of (behind_separator (lines_of input))) told.0 h.last told.1 h.closed);
      is = in_front h.written (w.text told.0) h.last octets h.is told.2;
    }

refused : (input octets : List ℕ) (s : Setting) (M : LineMeaning) (w : Writes) → MeansEvents s M w
    → IsRefused M refusals.BadTrace (behind_separator (lines_of input)) octets → AreTold input s w BadTrace octets
refused input octets s M w means h =
    let told = means.accepts _ h.written h.handled.accepted in
    record {
      events = told.0;
      front = h.before;
      behind = h.line ∷ h.behind;
      divided = h.divided;
      audit = told.1;
      last = h.last;
      ends = (h.line, h.behind, refl, means.refuses _ _ refusals.BadTrace h.last h.refused);
      is = in_front h.written (w.text told.0) h.last octets h.is told.2;
    }

broken : (input octets : List ℕ) (s : Setting) (M : LineMeaning) (w : Writes) → MeansEvents s M w
    → IsRefused M refusals.Broken (behind_separator (lines_of input)) octets → AreTold input s w Broken octets
broken input octets s M w means h =
    let told = means.accepts _ h.written h.handled.accepted in
    record {
      events = told.0;
      front = h.before;
      behind = h.line ∷ h.behind;
      divided = h.divided;
      audit = told.1;
      last = h.last;
      ends = (h.line, h.behind, refl, means.refuses _ _ refusals.Broken h.last h.refused);
      is = in_front h.written (w.text told.0) h.last octets h.is told.2;
    }

large : (input octets : List ℕ) (s : Setting) (M : LineMeaning) (w : Writes) → MeansEvents s M w → IsLarge M (behind_separator (lines_of input)) octets
    → AreTold input s w TooLarge octets
large input octets s M w means h =
    let told = means.accepts _ h.written h.handled.accepted in
    record {
      events = told.0;
      front = h.before;
      behind = h.line ∷ h.behind;
      divided = h.divided;
      audit = told.1;
      last = large_line (length h.before + 1);
      ends = (h.line, h.behind, refl, (h.large, refl));
      is = in_front h.written (w.text told.0) (large_line (length h.before + 1)) octets h.is told.2;
    }

firsts : (input octets : List ℕ) (s : Setting) (M : LineMeaning) (w : Writes) → MeansEvents s M w → AreFirst M (behind_separator (lines_of input)) octets
    → AreTold input s w OutOfMemory octets
firsts input octets s M w means h =
    let told = means.accepts _ octets h.handled.accepted in
    record {
      events = told.0;
      front = h.front;
      behind = h.behind;
      divided = h.divided;
      audit = told.1;
      last = [];
      ends = refl;
      is = told.2 ∙ sym (append-nil (w.text told.0));
    }

-- Answers

pub stand_first : (input octets : List ℕ) (s : Setting) (M : LineMeaning) (w : Writes) → MeansEvents s M w
    → StandsFirst M (behind_separator (lines_of input)) octets → AreTold input s w OutOfMemory octets
stand_first input octets s M w means (inl first) = firsts input octets s M w means first
stand_first input octets s M w means (inr off) = absurd (means.never _ _ _ off.broken)

pub records_due : (input : List ℕ) (status : Status) (octets : List ℕ) (s : Setting) (M : LineMeaning) (w : Writes) → MeansEvents s M w
    → RecordsAnswer M (behind_separator (lines_of input)) status octets → AreTold input s w status octets
records_due input Done octets s M w means h = wholly input octets s M w means h
records_due input BadTrace octets s M w means h = refused input octets s M w means h
records_due input Broken octets s M w means h = broken input octets s M w means h
records_due input TooLarge octets s M w means (inl big) = large input octets s M w means big
records_due input TooLarge octets s M w means (inr off) = absurd (means.never _ _ _ off.broken)
records_due input BadCalib octets s M w means h = absurd (means.never _ _ _ h.broken)
records_due input _ octets s M w means h = absurd h

-- If the source failed

-- the network text of the whole input is the one that came, and the whole records among what was taken are reported
pub cut_due : (input taken left octets : List ℕ) (s : Setting) (M : LineMeaning) (w : Writes) (front back text : List ℕ) → MeansEvents s M w
    → input ≡ taken ++ left → taken ≡ front ++ back → Divides front text → CutHandled M.accepts back octets →
    (network_text input ≡ text) × AreTold input s w ReadFault octets
cut_due input taken left octets s M w front back text means all goes divides cut =
    let is : input ≡ front ++ (back ++ left) = all ∙ ap (λ (l : List ℕ). l ++ left) goes ∙ append_assoc front back left in
    let parts : (network_text (front ++ (back ++ left)) ≡ text) × (behind_separator (lines_of (front ++ (back ++ left))) ≡ lines_of (back ++ left)) =
    divides (back ++ left) in
    let lines_are : lines_of (back ++ left) ≡ cut.lines ++ lines_of (cut.cut ++ left) =
    ap (λ (l : List ℕ). lines_of (l ++ left)) cut.all ∙ ap lines_of (append_assoc (concat cut.lines) cut.cut left)
    ∙ lines_behind cut.lines (cut.cut ++ left) cut.whole in
    let told = means.accepts _ octets cut.handled.accepted in (
      ap network_text is ∙ parts.0,
      record {
        events = told.0;
        front = cut.lines;
        behind = lines_of (cut.cut ++ left);
        divided = ap (λ (l : List ℕ). behind_separator (lines_of l)) is ∙ parts.1 ∙ lines_are;
        audit = told.1;
        last = [];
        ends = refl;
        is = told.2 ∙ sym (append-nil (w.text told.0));
      },
    )
