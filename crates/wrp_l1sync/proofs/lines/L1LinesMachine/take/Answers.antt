-- The pair begins with the first line, and goes on with each later one.
use Rattle.wrp_l1sync.proofs.LineTakingLaws.{goes_on, goes_wrong, begins_on, begins_wrong}
use Rattle.wrp_l1sync.proofs.lines.L1LinesMachine.take.Goals as goal

pub returns-in-Some-clause-accepted : goal.returns-in-Some-clause-accepted
returns-in-Some-clause-accepted c =
    goes_on c.args.self.now c.in-Some.pair c.go_on.new.pair c.args.number c.args.line.now c.go_on.new.text.items c.go_on.result
    c.in-Some.is c.go_on.ensures.stands

pub returns-in-Some-clause-refused : goal.returns-in-Some-clause-refused
returns-in-Some-clause-refused c =
    goes_wrong c.args.self.now c.in-Some.pair c.go_on.new.pair c.args.number c.args.line.now c.go_on.new.text.items c.go_on.result
    c.in-Some.is c.go_on.ensures.stands

pub returns-in-None-clause-accepted : goal.returns-in-None-clause-accepted
returns-in-None-clause-accepted c =
    begins_on c.args.self.now c.begin.new.self c.args.number c.args.line.now c.begin.new.text.items c.begin.result c.in-None.is
    c.begin.ensures.stands

pub returns-in-None-clause-refused : goal.returns-in-None-clause-refused
returns-in-None-clause-refused c =
    begins_wrong c.args.self.now c.begin.new.self c.args.number c.args.line.now c.begin.new.text.items c.begin.result c.in-None.is
    c.begin.ensures.stands
