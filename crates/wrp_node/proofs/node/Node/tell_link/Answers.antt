-- The servo is given WR_LINK_ON, if it changed.
use Rattle.std.proofs.Common.{sym}
use Rattle.wrp_node.proofs.Nodes.{inside_in, link_node}
use Rattle.wrp_node.proofs.Nothing.{link_untold}
use Rattle.wrp_node.proofs.node.Node.tell_link.Goals as goal

pub returns-then-owes_link-clause-lead : goal.returns-then-owes_link-clause-lead
returns-then-owes_link-clause-lead g c fixed before s h =
    let here = inside_in c.self.view_is h in
    link_node fixed before s c.deltas-on.result c.link-out.result c.take_answer.new.self c.link-out.new.self c.self.inside.report
    (c.deltas-on.ensures fixed before s here.parts) (c.link-out.ensures.calls fixed s.node.calls here.control) (λ call e n. c.take_answer.ensures fixed before s call here.parts e n) here.report

pub returns-else-owes_link-clause-lead : goal.returns-else-owes_link-clause-lead
returns-else-owes_link-clause-lead g c fixed before s h =
    let here = inside_in c.self.view_is h in
    inside_in (sym c.self.view_is)
    (link_untold fixed before s c.deltas-on.result (c.deltas-on.ensures fixed before s here.parts) (c.owes_link.ensures c.if-owes_link.false) here)
