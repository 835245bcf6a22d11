-- The course is the machine's, and begins with the first line.
use Rattle.wrp_plain.proofs.LinesMore.{begins_wrong, refuses_more, takes_more}
use Rattle.wrp_plain.proofs.lines.PlainLinesMachine.take.Goals as goal

pub returns-in-Some-clause-accepted : goal.returns-in-Some-clause-accepted
returns-in-Some-clause-accepted c =
    takes_more c.args.self.now.course c.in-Some.course c.go_on.new.course c.args.line.now c.go_on.new.text.items c.go_on.result c.in-Some.is c.go_on.ensures.accepted

pub returns-in-Some-clause-refused : goal.returns-in-Some-clause-refused
returns-in-Some-clause-refused c =
    refuses_more c.args.self.now.course c.in-Some.course c.args.line.now c.go_on.new.text.items c.args.number c.go_on.result c.in-Some.is c.go_on.ensures.refused

pub returns-in-None-clause-refused : goal.returns-in-None-clause-refused
returns-in-None-clause-refused c =
    begins_wrong c.args.self.now.course c.args.line.now c.begin.new.text.items c.args.number c.begin.result c.in-None.is c.begin.ensures.refused
