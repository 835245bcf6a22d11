use Rattle.toml.specs.View.{table_view}
use Rattle.wrp_network_text.proofs.Refused.{table_answer}
use Rattle.wrp_network_text.proofs.reading.answer_for_lists.Goals as goal

pub answer_for_taken-requires-clause-taken : goal.answer_for_taken-requires-clause-taken
answer_for_taken-requires-clause-taken c = c.in-Ok-None.ensures.taken.0 c.in-Ok-None.field-0-is

pub returns-in-Ok-Some-clause-value : goal.returns-in-Ok-Some-clause-value
returns-in-Ok-Some-clause-value c =
    let refused = (c.in-Ok-Some.ensures.refused c.in-Ok-Some.code c.in-Ok-Some.place).0 c.in-Ok-Some.field-0-is in
    table_answer (table_view c.args.doc.now) c.in-Ok-Some.code c.in-Ok-Some.place c.fault_at.result refused c.fault_at.ensures
