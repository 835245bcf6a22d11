-- A line with parts is read into a place as its parts are, and a line without parts has no fields.
use Rattle.std.proofs.Common.{ℕ, List, Err, Result, refl, sym, subst}
use Rattle.csv.specs.Records.{Row, fields_of}
use Rattle.wrp_base.specs.declared.fault.TraceFault.{TraceFault}
use Rattle.wrp_base.specs.declared.fault.TraceFault.TheVariants.{Fields}
use Rattle.wrp_fields.specs.Lines.{IsLine}
use Rattle.wrp_node.specs.declared.interface.Input.{Input}
use Rattle.wrp_trace.specs.Inputs.{input_of, read_of, IsReadInto}
use Rattle.wrp_trace.specs.LineSetting.{LineSetting}
use Rattle.wrp_records.specs.Split.{HasParts}
use Rattle.wrp_records.proofs.LineParts.{read_none, read_parts}

pub reads_parts : (site : LineSetting) (line : List ℕ) (row : Row) (answer : Result Unit TraceFault) (old new : Input) → HasParts line row → IsReadInto (input_of site (fields_of row)) answer old new → IsReadInto (read_of site line) answer old new
reads_parts site line row answer old new parts is =
    subst (λ (read : Result Input TraceFault). IsReadInto read answer old new) (sym (read_parts (input_of site) line row parts)) is

pub reads_none : (site : LineSetting) (line : List ℕ) (input : Input) → (IsLine line → ⊥) → IsReadInto (read_of site line) (Err Fields) input input
reads_none site line input other =
    subst (λ (read : Result Input TraceFault). IsReadInto read (Err Fields) input input) (sym (read_none (input_of site) line other)) (refl, refl)
