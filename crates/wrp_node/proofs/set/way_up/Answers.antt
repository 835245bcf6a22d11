-- The way up is passed link by link.
use Rattle.std.proofs.Common.{arith}
use Rattle.wrp_node.proofs.WayUp.{passed_more, passed_all, passed_eight}
use Rattle.wrp_node.proofs.set.way_up.Goals as goal

pub loop-steps-preserved : goal.loop-steps-preserved
loop-steps-preserved c =
    passed_more c.args.net.now c.args.n c.loop-steps.top c.loop-steps.steps c.in-Some.link.now c.loop-steps-test.true c.in-Some.ensures c.loop-steps.invariant

pub returns-in-None-clause-steps : goal.returns-in-None-clause-steps
returns-in-None-clause-steps c = (passed_all c.args.net.now c.args.n c.loop-steps.top c.loop-steps.steps c.in-None.ensures c.loop-steps.invariant).0

pub returns-in-None-clause-top : goal.returns-in-None-clause-top
returns-in-None-clause-top c = (passed_all c.args.net.now c.args.n c.loop-steps.top c.loop-steps.steps c.in-None.ensures c.loop-steps.invariant).1

pub returns-clause-steps : goal.returns-clause-steps
returns-clause-steps c =
    let all = passed_eight c.args.net.now c.args.n c.loop-steps.top c.loop-steps.steps c.loop-steps-test.false c.loop-steps.invariant in
    omega (arith, all.0, c.loop-steps-test.false, c.loop-steps.auto.steps-end)

pub returns-clause-top : goal.returns-clause-top
returns-clause-top c = (passed_eight c.args.net.now c.args.n c.loop-steps.top c.loop-steps.steps c.loop-steps-test.false c.loop-steps.invariant).1
