-- The tick is counted, then come the lease, the servo and the ports.
use Rattle.std.proofs.Common.{refl}
use Rattle.wrp_node.specs.NodeStep.{counted_tick, lease_ticked, servo_ticked}
use Rattle.wrp_node.specs.Telling.{step_from}
use Rattle.wrp_node.proofs.Nodes.{inside_in}
use Rattle.wrp_node.proofs.node.Node.tick.Goals as goal

pub returns-clause-takes : goal.returns-clause-takes
returns-clause-takes g c fixed n h =
    let here = inside_in c.self.view_is h in
    c.ports_tick.ensures.lead fixed n (servo_ticked fixed n) (λ p. refl)
    (c.servo_tick.ensures.lead fixed n (lease_ticked fixed n)
    (c.tell_lease.ensures.lead fixed n (step_from (counted_tick fixed n))
    (record { parts = c.count_tick.ensures fixed n (step_from n) here.parts; control = here.control; report = here.report })))
