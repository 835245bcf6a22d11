-- The port is given the sending.
use Rattle.wrp_node.specs.Telling.{step_from}
use Rattle.wrp_node.proofs.Nodes.{inside_in, sent_told}
use Rattle.wrp_node.proofs.node.Node.sent.Goals as goal

pub returns-clause-takes : goal.returns-clause-takes
returns-clause-takes g c fixed n h =
    let here = inside_in c.self.view_is h in
    record {
      parts = sent_told fixed n c.args.port c.args.seq c.args.delay c.args.stamp c.self.inside.parts.ticks c.give.new.self here.parts.ticks (c.give.ensures fixed n (step_from n) here.parts);
      control = here.control;
      report = here.report;
    }
