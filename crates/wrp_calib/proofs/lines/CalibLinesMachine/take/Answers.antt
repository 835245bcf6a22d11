-- One more line is taken, and nothing is written for it; or the line of its fault is written.
use Rattle.std.proofs.Common.{List, ℕ, ◌++◌, ◌∙◌, ap}
use Rattle.std.proofs.lemmas.Result.{IfOk-weaker}
use Rattle.wrp_calib.proofs.LineLemmas.{refuses_so}
use Rattle.wrp_calib.proofs.lines.CalibLinesMachine.take.Goals as goal

pub returns-in-Ok-clause-accepted : goal.returns-in-Ok-clause-accepted
returns-in-Ok-clause-accepted c = λ lines before is has accepted.
    let more = c.in-Ok.ensures.accepted lines has in
    (more, (more.0, more.1, ap (λ (octets : List ℕ). octets ++ c.args.text.now.items) accepted.2 ∙ c.requires.none))

pub returns-in-Err-clause-refused : goal.returns-in-Err-clause-refused
returns-in-Err-clause-refused c = λ lines refusal.
    IfOk-weaker c.refuse.result _ _
    (λ answer refuses is has number. refuses_so lines c.args.line.now c.in-Err.fault c.args.number c.args.text.now.items c.refuse.new.text.items answer refusal refuses is c.requires.none number (c.in-Err.ensures.refused lines has))
    c.refuse.ensures
