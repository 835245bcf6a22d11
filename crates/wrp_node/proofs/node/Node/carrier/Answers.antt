-- The port has its carrier, then the servo is given it.
use Rattle.std.proofs.Common.{◌∙◌, ap, ℕ, Option}
use Rattle.wrp_node.specs.NodeStep.{handed, is_slave_port}
use Rattle.wrp_node.specs.Telling.{step_from}
use Rattle.wrp_node.proofs.Nodes.{inside_in, carrier_told, carrier_node}
use Rattle.wrp_node.proofs.node.Node.carrier.Goals as goal
use Rattle.wrp_port.specs.declared.interface.PortIn.TheVariants.{Carrier}

pub returns-clause-takes : goal.returns-clause-takes
returns-clause-takes g c fixed n h =
    let here = inside_in c.self.view_is h in
    let there = carrier_told fixed n c.args.port c.args.up c.args.own_module c.give.new.self (c.give.ensures fixed n (step_from n) here.parts) in
    carrier_node fixed n c.args.port c.args.up c.args.own_module c.is_slave.result c.carrier-out.result c.take_answer.new.self c.carrier-out.new.self c.self.inside.report
    (c.is_slave.ensures ∙ ap (λ (o : Option ℕ). is_slave_port o c.args.port) there.slave)
    (c.carrier-out.ensures.calls fixed n.calls here.control)
    (λ call e k. c.take_answer.ensures fixed n (handed fixed c.args.port (Carrier c.args.up c.args.own_module) n) call there e k) here.report
