-- Every port has its tick.
use Rattle.std.proofs.Common.{◌∙◌}
use Rattle.wrp_node.proofs.Nodes.{inside_in, ticks_told, locked_is, certain_is}
use Rattle.wrp_node.proofs.node.Node.ports_tick.Goals as goal

pub returns-clause-lead : goal.returns-clause-lead
returns-clause-lead g c fixed before s none h =
    let here = inside_in c.self.view_is h in
    record {
      parts = ticks_told fixed before s c.give.new.self c.locked-locked.result c.certain-certain.result none
          (c.locked-locked.ensures ∙ locked_is fixed s.node c.self.inside.control here.control)
          (c.certain-certain.ensures ∙ certain_is fixed s.node c.self.inside.control here.control)
          (c.give.ensures fixed before s here.parts);
      control = here.control;
      report = here.report;
    }
