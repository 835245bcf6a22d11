-- The servo has a sample.
use Rattle.std.proofs.Common.{Some}
use Rattle.wrp_node.specs.Telling.{step_from}
use Rattle.wrp_node.proofs.Nodes.{inside_in, told_node, sample_number}
use Rattle.wrp_node.proofs.node.Node.sample.Goals as goal
use Rattle.wrp_servo.specs.Call.{CallSample}

pub returns-clause-takes : goal.returns-clause-takes
returns-clause-takes g c fixed n h =
    let here = inside_in c.self.view_is h in
    let calls = c.sample-out.ensures.calls fixed n.calls here.control in
    told_node fixed n (step_from n) (Some (CallSample c.args.n c.args.base c.args.bits)) c.args.n c.sample-out.result c.take_answer.new.self c.sample-out.new.self c.self.inside.report
    calls (sample_number fixed c.args.n c.args.base c.args.bits n.calls c.sample-out.result calls.answer)
    (λ call e k. c.take_answer.ensures fixed n (step_from n) call here.parts e k) here.report
