-- The course goes on with the event that the line says, or the line is refused.
use Rattle.std.proofs.Common.{◌∙◌, sym}
use Rattle.std.proofs.lemmas.Result.{IfOk-weaker}
use Rattle.wrp_plain.proofs.LinesMore.{breaks_so, goes_on_by, refuses_next}
use Rattle.wrp_plain.proofs.lines.go_on.Goals as goal

pub returns-in-Ok-clause-accepted : goal.returns-in-Ok-clause-accepted
returns-in-Ok-clause-accepted c =
    goes_on_by c.args.course.now c.happen.new.self c.args.line.now c.happen.new.text.items c.in-Ok.event c.args.number c.happen.result
    (sym c.in-Ok.is ∙ c.read_event.ensures.value) c.happen.ensures.happens

pub returns-in-Ok-clause-refused : goal.returns-in-Ok-clause-refused
returns-in-Ok-clause-refused c =
    breaks_so c.args.course.now c.happen.new.self c.args.line.now c.happen.new.text.items c.in-Ok.event c.args.number c.happen.result
    (sym c.in-Ok.is ∙ c.read_event.ensures.value) c.happen.ensures.happens

pub returns-in-Err-clause-refused : goal.returns-in-Err-clause-refused
returns-in-Err-clause-refused c = λ first lines refusal.
    IfOk-weaker c.refuse.result _ _
    (λ answer refuses is has counts.
    refuses_next first lines c.args.line.now c.in-Err.fault c.args.number c.args.text.now.items c.refuse.new.text.items answer refusal refuses c.requires.none (sym c.in-Err.is ∙ c.read_event.ensures.value) is counts)
    c.refuse.ensures
