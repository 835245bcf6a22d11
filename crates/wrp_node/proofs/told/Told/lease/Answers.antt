-- A lease counts no tick.
use Rattle.std.proofs.Common.{◌∙◌, ap}
use Rattle.wrp_node.proofs.Ticks.{lease_ticks}
use Rattle.wrp_node.proofs.told.Told.lease.Goals as goal

pub returns-clause-ticks : goal.returns-clause-ticks
returns-clause-ticks g c =
    ap (λ s. s.core.ticks) c.lease.ensures.value ∙ lease_ticks c.self.inside.servo.core c.args.fresh ∙ ap (λ t. t.servo.core.ticks) c.self.view_is
