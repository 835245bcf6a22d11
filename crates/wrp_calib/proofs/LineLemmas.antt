-- Each next line of a calibration says its record, and it is held.
use Rattle.std.proofs.Common.{◌≡◌, ℕ, suc, ◌+◌, ◌==◌, false, List, [], ◌∷◌, ◌++◌, length, reverse, Result, Ok, Err, sym, ap, ◌∙◌, subst, arith}
use Rattle.std.specs.Prelude.{OnOk, IfErr}
use Rattle.std.specs.List.{filter_map}
use Rattle.std.proofs.lemmas.List.{reverse-append}
use Rattle.std.proofs.lemmas.List.Elements.{filter_map-append}
use Rattle.wrp_base.specs.Calls.{Adds}
use Rattle.csv.specs.Records.{Row, fields_of}
use Rattle.wrp_base.specs.declared.fault.TraceFault.{TraceFault}
use Rattle.wrp_base.specs.declared.fault.TraceFault.TheVariants.{Fields}
use Rattle.wrp_records.specs.declared.machine.Refusal.{Refusal}
use Rattle.wrp_records.specs.declared.machine.Taken.{Taken}
use Rattle.wrp_records.specs.declared.machine.Taken.TheVariants.{Refused}
use Rattle.wrp_records.specs.Refusals.{RefusesLine}
use Rattle.wrp_fields.specs.Lines.{IsLine}
use Rattle.wrp_calib.specs.declared.lines.CalibLines.{CalibLines}
use Rattle.wrp_calib.specs.declared.lines.Held.{Held}
use Rattle.wrp_calib.specs.declared.lines.Held.TheVariants.{Nothing, Error}
use Rattle.wrp_calib.specs.Run.{Run}
use Rattle.wrp_calib.specs.Estimate.{Errors}
use Rattle.wrp_calib.specs.StandsFor.{CalibAt, StandsFor}
use Rattle.wrp_calib.specs.Lines.{CalibRecord, SaysError, SaysCord, SaysRun, record_of, error_line, cord_line, run_line, record_read}
use Rattle.wrp_calib.specs.LinesMeaning.{IsFaulty, Refuses}
use Rattle.wrp_calib.specs.LinesStand.{Holds, HoldsRuns, HasTaken, TakesNext}
use Rattle.wrp_calib.specs.Recorded.{run_in, runs_in}
use Rattle.wrp_records.specs.Split.{HasParts}
use Rattle.wrp_records.proofs.LineParts.{read_none, read_parts, refused_line}
use Rattle.wrp_calib.proofs.Saying.{as_many, say_more}

-- record 1
pub takes_error : (fields : List (List ℕ)) (e : ℕ) (held : Held) → held ≡ Nothing → Ok (SaysError e) ≡ error_line fields
    → (records : List CalibRecord) → Holds held records
    → (said : CalibRecord) × (record_of (length records + 1) fields ≡ Ok said) × (records ++ said ∷ [] ≡ SaysError e ∷ [])
takes_error fields e held is read records holds =
    let none : records ≡ [] = subst (λ (h : Held). Holds h records) is holds in
    (SaysError e, ap (λ (rs : List CalibRecord). record_of (length rs + 1) fields) none ∙ sym read, ap (λ (rs : List CalibRecord). rs ++ SaysError e ∷ []) none)

-- record 2
pub takes_cord : (fields : List (List ℕ)) (e d ep : ℕ) (held : Held) (calib : CalibAt) → held ≡ Error e → Ok (SaysCord d ep) ≡ cord_line fields
    → StandsFor (record { e = e; d = d; ep = ep }) calib []
    → (records : List CalibRecord) → Holds held records
    → (said : CalibRecord) × (record_of (length records + 1) fields ≡ Ok said) × HoldsRuns calib (records ++ said ∷ [])
takes_cord fields e d ep held calib is read stands records holds =
    let one : records ≡ SaysError e ∷ [] = subst (λ (h : Held). Holds h records) is holds in (
      SaysCord d ep,
      ap (λ (rs : List CalibRecord). record_of (length rs + 1) fields) one ∙ sym read,
      record {
        errors = record { e = e; d = d; ep = ep };
        further = [];
        are = ap (λ (rs : List CalibRecord). rs ++ SaysCord d ep ∷ []) one;
        stands = stands;
      },
    )

-- after two records a line is a run's
further_line : (n : ℕ) (fields : List (List ℕ)) → record_of (suc (suc n) + 1) fields ≡ run_line fields
further_line n fields =
    let one : (suc (suc n) + 1 == 1) ≡ false = grind arith in
    let two : (suc (suc n) + 1 == 2) ≡ false = grind arith in
    rw (one, two)

pub further_record : (records : List CalibRecord) (a b : CalibRecord) (further : List CalibRecord) (fields : List (List ℕ)) → records ≡ a ∷ b ∷ further
    → record_of (length records + 1) fields ≡ run_line fields
further_record records a b further fields are =
    ap (λ (rs : List CalibRecord). record_of (length rs + 1) fields) are ∙ further_line (length further) fields

-- one more run is the newest
runs_in-more : (records : List CalibRecord) (run : Run) → runs_in (records ++ SaysRun run ∷ []) ≡ run ∷ runs_in records
runs_in-more records run =
    ap reverse (filter_map-append run_in records (SaysRun run ∷ [])) ∙ reverse-append (filter_map run_in records) (run ∷ [])

-- a further record
pub takes_run : (fields : List (List ℕ)) (run : Run) (old new : CalibAt) → Ok (SaysRun run) ≡ run_line fields
    → ((errors : Errors) → Adds (StandsFor errors) old new run)
    → (records : List CalibRecord) → HoldsRuns old records
    → (said : CalibRecord) × (record_of (length records + 1) fields ≡ Ok said) × HoldsRuns new (records ++ said ∷ [])
takes_run fields run old new read adds records holds = (
  SaysRun run,
  further_record records _ _ holds.further fields holds.are ∙ sym read,
  record {
    errors = holds.errors;
    further = holds.further ++ SaysRun run ∷ [];
    are = ap (λ (rs : List CalibRecord). rs ++ SaysRun run ∷ []) holds.are;
    stands = subst (λ (runs : List Run). StandsFor holds.errors new runs) (sym (runs_in-more holds.further run)) (adds holds.errors (runs_in holds.further) holds.stands);
  },
)

-- what was held before is known by what it is
pub held_as : (old new : CalibLines) (held : Held) (fields : List (List ℕ)) (result : Result (Unit {0}) TraceFault) → old.held ≡ held
    → TakesNext (record { held = held }) new fields result → TakesNext old new fields result
held_as old new held fields result is takes =
    subst (λ (h : Held). TakesNext (record { held = h }) new fields result) (sym is) takes

-- the next line is taken
pub takes_line : (old new : CalibLines) (line : List ℕ) (row : Row) (result : Result (Unit {0}) TraceFault) → HasParts line row
    → TakesNext old new (fields_of row) result
    → OnOk result ((lines : List (List ℕ)) → HasTaken old lines → HasTaken new (lines ++ line ∷ []))
takes_line old new line row (Ok done) parts takes = λ lines has.
    let next = takes has.0 has.2 in
    let count : length has.0 + 1 ≡ length lines + 1 = ap (λ (n : ℕ). n + 1) (as_many lines has.0 has.1) in
    let reads : record_read (length lines + 1) line ≡ Ok next.0 =
    read_parts (record_of (length lines + 1)) line row parts ∙ ap (λ (n : ℕ). record_of n (fields_of row)) (sym count) ∙ next.1 in
    (has.0 ++ next.0 ∷ [], say_more lines has.0 line next.0 has.1 reads, next.2)
takes_line old new line row (Err fault) parts takes = tt

-- or it is refused
pub refuses_line : (old new : CalibLines) (line : List ℕ) (row : Row) (result : Result (Unit {0}) TraceFault) → HasParts line row
    → TakesNext old new (fields_of row) result
    → IfErr result (λ fault. (lines : List (List ℕ)) → HasTaken old lines → IsFaulty lines line fault)
refuses_line old new line row (Ok done) parts takes = tt
refuses_line old new line row (Err fault) parts takes = λ lines has.
    let count : length has.0 + 1 ≡ length lines + 1 = ap (λ (n : ℕ). n + 1) (as_many lines has.0 has.1) in
    (has.0, has.1, read_parts (record_of (length lines + 1)) line row parts ∙ ap (λ (n : ℕ). record_of n (fields_of row)) (sym count) ∙ takes.1 has.0 has.2)

-- one without parts is refused
pub refuses_other : (old : CalibLines) (line : List ℕ) → (IsLine line → ⊥) → (lines : List (List ℕ)) → HasTaken old lines → IsFaulty lines line Fields
refuses_other old line other lines has = (has.0, has.1, read_none (record_of (length lines + 1)) line other)

-- a refusal for a fault refuses its line
pub refuses_so : (lines : List (List ℕ)) (line : List ℕ) (fault : TraceFault) (number : ℕ) (old new : List ℕ) (answer : Taken) (refusal : Refusal)
    → RefusesLine fault number old new answer → answer ≡ Refused refusal → old ≡ [] → number ≡ length lines + 1 → IsFaulty lines line fault
    → Refuses lines line refusal new
refuses_so lines line fault number old new answer refusal refuses is none count faulty =
    let told = refused_line fault number (length lines + 1) old new answer refusal refuses is none count in
    subst (λ (r : Refusal). Refuses lines line r new) told.0 (fault, faulty, told.1)
