-- The lines are the step's lines.
use Rattle.std.proofs.Common.{ap, rules}
use Rattle.std.proofs.lemmas.Result.{IfOk-weaker}
use Rattle.wrp_config.specs.declared.network.Network.{Network}
use Rattle.wrp_loop.proofs.Happening.{step_text}
use Rattle.wrp_loop.proofs.lines.append_step.Goals as goal

pub returns : goal.returns
returns g c =
    IfOk-weaker c.append_outputs.result _ _
    (λ x wrote s w stands.
    step_text _ s w c.args.world.now c.args.out.now c.node.result.now c.ticks-ticks.result _ c.net.result.now.cfg c.deref.result.now c.append_outputs.new.text.items c.args.text.now.items
    stands c.node.ensures c.ticks-ticks.ensures.run (let off = c.off-off.ensures s w stands in search (off, rules)) (ap (λ (net : Network). net.cfg) c.net.ensures) c.deref.ensures.0 wrote)
    c.append_outputs.ensures
