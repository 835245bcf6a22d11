-- A status and octets are expected for the lines of some records, if each line after others is decided, and the end
-- is too.
use Rattle.std.proofs.Common.{◌⊎◌, inl, inr, refl, sym, subst, ℕ, ◌+◌, ◌<◌, List, [], ◌∷◌, ◌++◌, append_assoc, length, length-append, map, arith}
use Rattle.std.specs.List.{AllByRecursion}
use Rattle.std.proofs.lemmas.Bool.{cases_lt}
use Rattle.std.proofs.lemmas.List.{append-nil, map-append}
use Rattle.wrp_base.proofs.Lists.{all_append}
use Rattle.wrp_records.specs.declared.machine.Refusal.{Refusal}
use Rattle.wrp_records.specs.declared.machine.Refusal.TheVariants as refusals
use Rattle.wrp_records.specs.declared.status.Status.{Status}
use Rattle.wrp_records.specs.declared.status.Status.TheVariants.{Done, BadTrace, Broken, TooLarge, BadCalib}
use Rattle.wrp_records.specs.LineMeaning.{LineMeaning}
use Rattle.wrp_records.specs.Lines.{content_of}
use Rattle.wrp_records.specs.Stream.{Handles, IsTooLarge, IsWithin, large_line, line_limit, number_limit, size_of}
use Rattle.wrp_records.proofs.Unique.{EndsWith}
use Rattle.wrp_records.specs.RecordsAnswer.{HasAnswer}

-- one more line is a record, and writes more
abbrev pub GoesOn : LineMeaning → List (List ℕ) → (line text : List ℕ) → Type 0
GoesOn M lines line text = (more : List ℕ) × M.accepts (lines ++ line ∷ []) (text ++ more)

-- it is refused
abbrev pub Refused : LineMeaning → List (List ℕ) → List ℕ → Type 0
Refused M lines line = (refusal : Refusal) × (last : List ℕ) × M.refuses lines line refusal last

-- after all lines something is written, or breaks off
abbrev pub Ends : LineMeaning → List (List ℕ) → Type 0
Ends M lines = (status : Status) × (last : List ℕ) × EndsWith M lines status last

-- no lines are records, each line after records is a record or is refused, and the end is decided
pub record IsTotal (M : LineMeaning) : Type 0 where
  pub starts : M.accepts [] []
  pub decides : (lines : List (List ℕ)) (line text : List ℕ) → M.accepts lines text → GoesOn M lines line text ⊎ Refused M lines line
  pub ends : (lines : List (List ℕ)) (text : List ℕ) → M.accepts lines text → Ends M lines

-- at the end
at_end : (M : LineMeaning) (lines : List (List ℕ)) (text : List ℕ) (status : Status) (last : List ℕ) → Handles M.accepts lines text → EndsWith M (map content_of lines) status last → HasAnswer M lines
at_end M lines text Done last handles ends = (Done, text ++ last, record { written = text; last = last; handled = handles; closed = ends; is = refl })
at_end M lines text TooLarge last handles ends = (TooLarge, text ++ last, inr (record { written = text; last = last; handled = handles; broken = ends; is = refl }))
at_end M lines text BadCalib last handles ends = (BadCalib, text ++ last, record { written = text; last = last; handled = handles; broken = ends; is = refl })
at_end M lines text _ last handles ends = absurd ends

-- at a line that is too large
at_large : (M : LineMeaning) (before behind : List (List ℕ)) (line text : List ℕ) → Handles M.accepts before text → IsTooLarge line (length before) → HasAnswer M (before ++ line ∷ behind)
at_large M before behind line text handles large =
    (TooLarge, text ++ large_line (length before + 1), inl (record { before = before; line = line; behind = behind; written = text; divided = refl; handled = handles; large = large; is = refl }))

-- at a line that is refused
at_refused : (M : LineMeaning) (before behind : List (List ℕ)) (line text last : List ℕ) (refusal : Refusal) → Handles M.accepts before text → IsWithin line → length before + 1 < number_limit
    → M.refuses (map content_of before) (content_of line) refusal last → HasAnswer M (before ++ line ∷ behind)
at_refused M before behind line text last refusals.BadTrace handles within number refused =
    (BadTrace, text ++ last, record { before = before; line = line; behind = behind; written = text; last = last; divided = refl; handled = handles; within = within; number = number; refused = refused; is = refl })
at_refused M before behind line text last refusals.Broken handles within number refused =
    (Broken, text ++ last, record { before = before; line = line; behind = behind; written = text; last = last; divided = refl; handled = handles; within = within; number = number; refused = refused; is = refl })

-- line by line
from_line : (M : LineMeaning) → IsTotal M → (behind before : List (List ℕ)) (text : List ℕ) → AllByRecursion IsWithin before → length before < number_limit
    → M.accepts (map content_of before) text → HasAnswer M (before ++ behind)
from_line M total [] before text sizes count accepted =
    let ends = total.ends (map content_of before) text accepted in
    subst (HasAnswer M) (sym (append-nil before)) (at_end M before text ends.0 ends.1 (record { sizes = sizes; count = count; accepted = accepted }) ends.2)
from_line M total (line ∷ rest) before text sizes count accepted =
    let handles : Handles M.accepts before text = record { sizes = sizes; count = count; accepted = accepted } in
    elim (cases_lt line_limit (size_of line)) [
      | inl long ↦ at_large M before rest line text handles (inl long)
      | inr within ↦ elim (cases_lt (length before + 1) number_limit) [
        | inr number ↦ at_large M before rest line text handles (inr (omega arith))
        | inl number ↦ elim (total.decides (map content_of before) (content_of line) text accepted) [
          | inr stop ↦ at_refused M before rest line text stop.1 stop.0 handles within number stop.2
          | inl more ↦
              let longer : List (List ℕ) = before ++ line ∷ [] in
              let fewer : length longer < number_limit = (let one = length-append before (line ∷ []) in omega arith) in
              subst (HasAnswer M) (append_assoc before (line ∷ []) rest)
              (from_line M total rest longer (text ++ more.0) (all_append IsWithin before (line ∷ []) sizes (within, tt)) fewer
              (subst (λ (ls : List (List ℕ)). M.accepts ls (text ++ more.0)) (sym (map-append content_of before (line ∷ []))) more.1))
        ]
      ]
    ]

-- so an answer is expected for all lines
pub lines_answered : (M : LineMeaning) → IsTotal M → (lines : List (List ℕ)) → HasAnswer M lines
lines_answered M total lines = from_line M total lines [] [] tt (omega arith) total.starts
