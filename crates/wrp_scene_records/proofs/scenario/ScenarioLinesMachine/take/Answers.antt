-- One more line is read, and nothing is written for it; or the line of its fault is written.
use Rattle.std.proofs.Common.{ap, refl}
use Rattle.std.proofs.lemmas.Result.{IfOk-weaker}
use Rattle.wrp_scene_records.proofs.SceneLines.{accepts_more, refuses_so, says_more}
use Rattle.wrp_scene_records.proofs.scenario.ScenarioLinesMachine.take.Goals as goal

pub returns-in-Ok-clause-accepted : goal.returns-in-Ok-clause-accepted
returns-in-Ok-clause-accepted c = λ lines before is has accepted.
    let net = ap (λ n. n.now) c.read.ensures.net in
    let more = says_more c.args.self.now c.read.new.self lines c.args.line.now c.in-Ok.ensures.value net has in
    (more, accepts_more c.args.self.now.net.now c.args.self.now c.read.new.self lines c.args.line.now before c.args.text.now.items refl net more accepted c.requires.none)

pub returns-in-Err-clause-refused : goal.returns-in-Err-clause-refused
returns-in-Err-clause-refused c = λ lines refusal.
    IfOk-weaker c.refuse.result _ _
    (λ answer refuses is said counts. refuses_so c.args.self.now lines c.args.line.now c.in-Err.fault c.args.number c.args.text.now.items c.refuse.new.text.items answer refusal refuses is c.requires.none counts c.in-Err.ensures.value said)
    c.refuse.ensures
