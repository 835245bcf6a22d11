-- For the lines of a calibration one text is expected, and no line is both a record and none.
use Rattle.std.proofs.Common.{◌≡◌, ℕ, ◌+◌, length, List, ◌∷◌, ◌++◌, refl, sym, ap, ◌∙◌}
use Rattle.wrp_base.specs.declared.fault.TraceFault.{TraceFault}
use Rattle.wrp_calib.specs.Lines.{CalibRecord}
use Rattle.wrp_records.specs.declared.machine.Refusal.{Refusal}
use Rattle.wrp_records.specs.declared.machine.Refusal.TheVariants.{BadTrace, Broken}
use Rattle.wrp_records.specs.Refusals.{bad_trace_line}
use Rattle.wrp_records.proofs.Unique.{IsExact, closes_once}
use Rattle.wrp_calib.specs.LinesMeaning.{Accepts, IsFaulty, Refuses, Closes, Bars, calibration}
use Rattle.wrp_calib.specs.Recorded.{Ending, Answered, Barred, Say, ending_of}
use Rattle.wrp_calib.proofs.Saying.{said_once, says_among}

-- nothing is written before the end
pub one_text : (lines : List (List ℕ)) (t u : List ℕ) → Accepts lines t → Accepts lines u → t ≡ u
one_text lines t u p q = p.2 ∙ sym q.2

-- a line among records is a record
pub not_both : (before behind : List (List ℕ)) (line t : List ℕ) (fault : TraceFault)
    → Accepts (before ++ line ∷ behind) t → IsFaulty before line fault → ⊥
not_both before behind line t fault accepted faulty =
    let says = says_among before behind line accepted.0 accepted.1 in
    let same = sym says.1 ∙ faulty.2 in
    cc

-- a line has one fault
pub one_fault : (before : List (List ℕ)) (line : List ℕ) (f g : TraceFault) → IsFaulty before line f → IsFaulty before line g → f ≡ g
one_fault before line f g p q =
    let same = sym p.2 ∙ q.2 in
    cc

-- lines have one ending
one_ending : (lines : List (List ℕ)) (a b : List CalibRecord) (e f : Ending) → Say lines a → Say lines b → ending_of a ≡ e → ending_of b ≡ f → e ≡ f
one_ending lines a b e f p q is is' = sym is ∙ ap (λ (records : List CalibRecord). ending_of records) (said_once lines a b p q) ∙ is'

pub one_answer : (lines : List (List ℕ)) (t u : List ℕ) → Closes lines t → Closes lines u → t ≡ u
one_answer lines t u p q =
    let same : Answered t ≡ Answered u = one_ending lines p.0 q.0 (Answered t) (Answered u) p.1 q.1 p.2 q.2 in
    cc

pub one_refusal : (lines : List (List ℕ)) (t u : List ℕ) → Bars lines t → Bars lines u → t ≡ u
one_refusal lines t u p q =
    let same : Barred t ≡ Barred u = one_ending lines p.0 q.0 (Barred t) (Barred u) p.1 q.1 p.2 q.2 in
    cc

pub never_both : (lines : List (List ℕ)) (t u : List ℕ) → Closes lines t → Bars lines u → ⊥
never_both lines t u p q =
    let same : Answered t ≡ Barred u = one_ending lines p.0 q.0 (Answered t) (Barred u) p.1 q.1 p.2 q.2 in
    cc

-- so a record's line is not refused, and a line that is refused is refused in one way
never_refused : (before behind : List (List ℕ)) (line t last : List ℕ) (refusal : Refusal)
    → Accepts (before ++ line ∷ behind) t → Refuses before line refusal last → ⊥
never_refused before behind line t last BadTrace accepted refused = not_both before behind line t refused.0 accepted refused.1
never_refused before behind line t last Broken accepted refused = refused

refused_once : (before : List (List ℕ)) (line t u : List ℕ) (a b : Refusal) → Refuses before line a t → Refuses before line b u → (a ≡ b) × (t ≡ u)
refused_once before line t u BadTrace BadTrace p q =
    (refl, p.2 ∙ ap (bad_trace_line (length before + 1)) (one_fault before line p.0 q.0 p.1 q.1) ∙ sym q.2)
refused_once before line t u Broken b p q = absurd p
refused_once before line t u BadTrace Broken p q = absurd q

-- the lines of a calibration have one answer
pub exact : IsExact calibration
exact = record {
  one_text = one_text;
  not_both = never_refused;
  one_refusal = refused_once;
  one_end = closes_once Accepts Refuses Closes Bars one_answer one_refusal never_both;
}
