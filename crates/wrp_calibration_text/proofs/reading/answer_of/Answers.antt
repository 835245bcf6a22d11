use Rattle.toml.specs.View.{table_view}
use Rattle.wrp_calibration_text.proofs.Refused.{refused_answer}
use Rattle.wrp_calibration_text.proofs.reading.answer_of.Goals as goal

pub returns-in-Ok-Some : goal.returns-in-Ok-Some
returns-in-Ok-Some c =
    let refused = (c.in-Ok-Some.ensures.refused c.in-Ok-Some.code c.in-Ok-Some.place).0 c.in-Ok-Some.field-0-is in
    refused_answer c.args.others (table_view c.args.doc.now) c.in-Ok-Some.code c.in-Ok-Some.place c.fault_at.result refused c.fault_at.ensures

pub returns-in-Ok : goal.returns-in-Ok
returns-in-Ok c = (c.in-Ok-None.ensures.taken.0 c.in-Ok-None.field-0-is, c.in-Ok.ensures)
