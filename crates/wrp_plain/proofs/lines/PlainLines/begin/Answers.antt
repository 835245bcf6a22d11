-- The first line is refused for its fault.
use Rattle.std.proofs.Common.{◌∙◌, sym}
use Rattle.std.proofs.lemmas.Result.{IfOk-weaker}
use Rattle.wrp_plain.proofs.LinesMore.{refuses_first}
use Rattle.wrp_plain.proofs.lines.PlainLines.begin.Goals as goal

pub returns-in-Err-clause-refused : goal.returns-in-Err-clause-refused
returns-in-Err-clause-refused c = λ refusal.
    IfOk-weaker c.refuse.result _ _
    (λ answer refuses is counts. refuses_first c.args.line.now c.in-Err.fault c.args.number c.args.text.now.items c.refuse.new.text.items answer refusal refuses c.requires.none (sym c.in-Err.is ∙ c.read_start.ensures.value) is counts)
    c.refuse.ensures
