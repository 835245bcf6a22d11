-- A line says what its parts say; a line without parts has no fields; and what a refusal says about a
-- line.
use Rattle.std.proofs.Common.{◌≡◌, ◌∙◌, ap, ap₂, sym, refl, ℕ, false, Result, Err, List, [], ◌++◌}
use Rattle.std.proofs.lemmas.Bool.{false_from_ne_true}
use Rattle.csv.specs.Records.{Row, fields_of}
use Rattle.wrp_base.specs.declared.fault.TraceFault.{TraceFault}
use Rattle.wrp_base.specs.declared.fault.TraceFault.TheVariants.{Fields, Kind, Number, Name, Memory}
use Rattle.wrp_fields.specs.Lines.{IsLine}
use Rattle.wrp_fields.specs.Reading.{IsReading, is_plain}
use Rattle.wrp_fields.proofs.PlainLemmas.{line_is, line_passes}
use Rattle.wrp_records.specs.declared.machine.Refusal.{Refusal}
use Rattle.wrp_records.specs.declared.machine.Refusal.TheVariants.{BadTrace}
use Rattle.wrp_records.specs.declared.machine.Taken.{Taken}
use Rattle.wrp_records.specs.declared.machine.Taken.TheVariants.{Refused}
use Rattle.wrp_records.specs.Refusals.{RefusesLine, bad_trace_line, is_memory}
use Rattle.wrp_records.specs.Split.{HasParts, read_by}

pub read_parts : {A : Type 0} (reading : List (List ℕ) → Result A TraceFault) (line : List ℕ) (row : Row) → HasParts line row → read_by reading line ≡ reading (fields_of row)
read_parts reading line row parts = rw (line_passes line parts.0) (ap reading (sym parts.1))

pub read_none : {A : Type 0} (reading : List (List ℕ) → Result A TraceFault) (line : List ℕ) → (IsLine line → ⊥) → read_by reading line ≡ Err Fields
read_none reading line other = rw (false_from_ne_true (is_plain line) (λ e. other (line_is line e))) refl

-- a fault that is not lack of memory is what the line is read with
pub read_fault : {A : Type 0} (read : Result A TraceFault) (fault : TraceFault) → is_memory fault ≡ false → IsReading read (Err fault) → read ≡ Err fault
read_fault read Fields real is = sym is
read_fault read Kind real is = sym is
read_fault read (Number field) real is = sym is
read_fault read (Name field) real is = sym is
read_fault read (Memory cause) real is = absurd (cc)

-- a refusal for a fault is about a line that is no record, and only the line that names the fault is appended
pub refused_line : (fault : TraceFault) (number count : ℕ) (old new : List ℕ) (taken : Taken) (refusal : Refusal) → RefusesLine fault number old new taken → taken ≡ Refused refusal →
    old ≡ [] → number ≡ count → (BadTrace ≡ refusal) × (new ≡ bad_trace_line count fault)
refused_line fault number count old new taken refusal refuses is none counts =
    let same : Refused BadTrace ≡ Refused refusal = sym refuses.refused ∙ is in
    (cc, refuses.line ∙ ap₂ (λ (octets : List ℕ) (n : ℕ). octets ++ bad_trace_line n fault) none counts)
