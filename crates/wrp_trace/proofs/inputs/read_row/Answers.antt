use Rattle.wrp_trace.proofs.ReadInto.{read_into, fault_into}
use Rattle.wrp_trace.proofs.inputs.read_row.Goals as goal

pub returns-in-Ok-clause-value : goal.returns-in-Ok-clause-value
returns-in-Ok-clause-value c = read_into _ _ _ _ _ c.read_input_fields.ensures.value c.in-Ok.is

pub returns-in-Err-clause-value : goal.returns-in-Err-clause-value
returns-in-Err-clause-value c = fault_into _ _ _ _ _ c.read_input_fields.ensures.value c.in-Err.is
