-- The lines are the step's lines.
use Rattle.std.proofs.Common.{◌∙◌, ap, rules}
use Rattle.std.proofs.lemmas.Int.{to_z-of_z}
use Rattle.std.proofs.lemmas.Result.{IfOk-weaker}
use Rattle.wrp_network.specs.Network.{name_at}
use Rattle.wrp_config.specs.declared.network.Network.{Network}
use Rattle.wrp_audit.proofs.AuditSteps.{step_text}
use Rattle.wrp_network_world.proofs.BoundLemmas.{bound_at}
use Rattle.wrp_audit.proofs.audit.append_step.Goals as goal

pub returns : goal.returns
returns g c =
    IfOk-weaker c.append_outputs.result _ _
    (λ x wrote s w stands.
    step_text _ s w c.args.world.now c.args.out.now c.node.result.now c.ticks-ticks.result _ c.name_of-name.result.now _ c.deref.result.now c.append_outputs.new.text.items c.args.text.now.items
    stands c.node.ensures c.ticks-ticks.ensures.run (λ t v h. let off = c.off-off.ensures t v h in search (off, to_z-of_z, rules))
    (c.name_of-name.ensures ∙ ap (λ (net : Network). name_at net.cfg c.args.out.now.node) c.net-net.ensures)
    (bound_at c.args.world.now.plant.net.cfg c.args.bounds.now c.from.result c.args.out.now.node c.requires.bounds c.requires.node c.from.ensures)
    c.deref.ensures.0 wrote)
    c.append_outputs.ensures
