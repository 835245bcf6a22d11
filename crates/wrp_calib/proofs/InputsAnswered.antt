-- For each input a status and a text are expected: line by line, and then at the end.
use Rattle.std.proofs.Common.{◌≡◌, ◌⊎◌, inl, inr, ℕ, ◌+◌, ◌<◌, List, [], ◌∷◌, ◌++◌, length, map, Result, Ok, Err, refl, sym, subst, arith, length-append, append_assoc}
use Rattle.std.specs.List.{AllByRecursion}
use Rattle.std.proofs.lemmas.Bool.{cases_lt}
use Rattle.std.proofs.lemmas.List.{append-nil, map-append}
use Rattle.wrp_base.proofs.Lists.{all_append}
use Rattle.wrp_base.specs.declared.fault.TraceFault.{TraceFault}
use Rattle.wrp_records.specs.declared.status.Status.{Status}
use Rattle.wrp_records.specs.declared.status.Status.TheVariants.{Done, BadTrace, TooLarge, BadCalib}
use Rattle.wrp_records.specs.Lines.{content_of, lines_of}
use Rattle.wrp_records.specs.RecordsAnswer.{RecordsAnswer}
use Rattle.wrp_records.specs.Refusals.{bad_trace_line}
use Rattle.wrp_records.specs.Stream.{Handles, IsTooLarge, IsWithin, large_line, line_limit, number_limit, size_of}
use Rattle.wrp_calib.specs.Lines.{CalibRecord, record_read}
use Rattle.wrp_calib.specs.LinesAnswer.{EachInputHasAnswer}
use Rattle.wrp_calib.specs.LinesMeaning.{Accepts, Bars, Closes, calibration}
use Rattle.wrp_calib.specs.Recorded.{Say, ending_of}
use Rattle.wrp_calib.proofs.LinesTelling.{one_due}
use Rattle.wrp_calib.proofs.Saying.{say_more}

-- a status and a text are expected for these lines
abbrev Answered : List (List ℕ) → Type 0
Answered lines = (status : Status) × (text : List ℕ) × RecordsAnswer calibration lines status text

-- these lines are handled: they are records, and write nothing
handled : (before : List (List ℕ)) (records : List CalibRecord) → AllByRecursion IsWithin before → length before < number_limit
    → Say (map content_of before) records → Handles Accepts before []
handled before records sizes count say = record { sizes = sizes; count = count; accepted = (records, say, refl) }

-- at the end
at_end : (before : List (List ℕ)) → Handles Accepts before []
    → ((text : List ℕ) × Closes (map content_of before) text) ⊎ ((line : List ℕ) × Bars (map content_of before) line) → Answered before
at_end before handles (inl (text, closes)) =
    (Done, text, record { written = []; last = text; handled = handles; closed = closes; is = refl })
at_end before handles (inr (line, bars)) =
    (BadCalib, line, record { written = []; last = line; handled = handles; broken = bars; is = refl })

-- at a line that is too large
at_large : (before behind : List (List ℕ)) (line : List ℕ) → Handles Accepts before [] → IsTooLarge line (length before)
    → Answered (before ++ line ∷ behind)
at_large before behind line handles large =
    (TooLarge, large_line (length before + 1), inl (record { before = before; line = line; behind = behind; written = []; divided = refl; handled = handles; large = large; is = refl }))

-- at a line that is read
at_line : (before behind : List (List ℕ)) (line : List ℕ) (records : List CalibRecord) → Handles Accepts before [] → IsWithin line
    → length before + 1 < number_limit → Say (map content_of before) records
    → (read : Result CalibRecord TraceFault) → record_read (length (map content_of before) + 1) (content_of line) ≡ read
    → ((said : CalibRecord) → record_read (length (map content_of before) + 1) (content_of line) ≡ Ok said → Answered (before ++ line ∷ behind))
    → Answered (before ++ line ∷ behind)
at_line before behind line records handles within number say (Ok said) is goes_on = goes_on said is
at_line before behind line records handles within number say (Err fault) is goes_on =
    let last : List ℕ = bad_trace_line (length (map content_of before) + 1) fault in
    (BadTrace, last, record { before = before; line = line; behind = behind; written = []; last = last; divided = refl; handled = handles; within = within; number = number; refused = (fault, (records, say, is), refl); is = refl })

-- line by line
from_line : (behind before : List (List ℕ)) (records : List CalibRecord) → AllByRecursion IsWithin before → length before < number_limit
    → Say (map content_of before) records → Answered (before ++ behind)
from_line [] before records sizes count say =
    subst Answered (sym (append-nil before))
    (at_end before (handled before records sizes count say) (one_due (map content_of before) records say (ending_of records) refl))
from_line (line ∷ rest) before records sizes count say =
    let handles = handled before records sizes count say in
    elim (cases_lt line_limit (size_of line)) [
      | inl long ↦ at_large before rest line handles (inl long)
      | inr within ↦ elim (cases_lt (length before + 1) number_limit) [
        | inr number ↦ at_large before rest line handles (inr (omega arith))
        | inl number ↦
            let more : List (List ℕ) = before ++ line ∷ [] in
            let count_more : length more < number_limit = (let one = length-append before (line ∷ []) in omega arith) in
            at_line before rest line records handles within number say (record_read (length (map content_of before) + 1) (content_of line)) refl
            (λ said reads. subst Answered (append_assoc before (line ∷ []) rest)
            (from_line rest more (records ++ said ∷ []) (all_append IsWithin before (line ∷ []) sizes (within, tt)) count_more
            (subst (λ (ls : List (List ℕ)). Say ls (records ++ said ∷ [])) (sym (map-append content_of before (line ∷ [])))
            (say_more (map content_of before) records (content_of line) said say reads))))
      ]
    ]

pub each_input_has_answer : EachInputHasAnswer
each_input_has_answer input = from_line (lines_of input) [] [] tt (omega arith) tt
