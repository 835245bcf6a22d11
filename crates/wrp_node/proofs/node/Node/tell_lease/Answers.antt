-- The servo is given the lease, if it changed.
use Rattle.std.proofs.Common.{sym}
use Rattle.wrp_node.proofs.Nodes.{inside_in, lease_node}
use Rattle.wrp_node.proofs.Nothing.{lease_untold}
use Rattle.wrp_node.proofs.node.Node.tell_lease.Goals as goal

pub returns-then-owes_lease-clause-lead : goal.returns-then-owes_lease-clause-lead
returns-then-owes_lease-clause-lead g c fixed before s h =
    let here = inside_in c.self.view_is h in
    lease_node fixed before s c.lease-fresh.result c.lease-out.result c.take_answer.new.self c.lease-out.new.self c.self.inside.report
    (c.lease-fresh.ensures fixed before s here.parts) (c.lease-out.ensures.calls fixed s.node.calls here.control) (λ call e n. c.take_answer.ensures fixed before s call here.parts e n) here.report

pub returns-else-owes_lease-clause-lead : goal.returns-else-owes_lease-clause-lead
returns-else-owes_lease-clause-lead g c fixed before s h =
    let here = inside_in c.self.view_is h in
    inside_in (sym c.self.view_is)
    (lease_untold fixed before s c.lease-fresh.result (c.lease-fresh.ensures fixed before s here.parts) (c.owes_lease.ensures c.if-owes_lease.false) here)
