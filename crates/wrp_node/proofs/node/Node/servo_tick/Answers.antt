-- The servo has its tick.
use Rattle.std.proofs.Common.{refl, Some}
use Rattle.wrp_node.proofs.Nodes.{inside_in, told_node, no_sample}
use Rattle.wrp_node.proofs.node.Node.servo_tick.Goals as goal
use Rattle.wrp_servo.specs.Call.{CallTick}

pub returns-clause-lead : goal.returns-clause-lead
returns-clause-lead g c fixed before s h =
    let here = inside_in c.self.view_is h in
    told_node fixed before s (Some CallTick) 0 c.tick-out.result c.take_answer.new.self c.tick-out.new.self c.self.inside.report
    (c.tick-out.ensures.calls fixed s.node.calls here.control) (no_sample fixed CallTick c.tick-out.result refl) (λ call e n. c.take_answer.ensures fixed before s call here.parts e n) here.report
