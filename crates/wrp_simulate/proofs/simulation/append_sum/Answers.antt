-- The line is the line of the node in the world.
use Rattle.std.proofs.Common.{◌∙◌, ap, rules}
use Rattle.std.proofs.lemmas.Int.{to_z-of_z}
use Rattle.std.proofs.lemmas.Result.{IfOk-weaker}
use Rattle.wrp_network.specs.Network.{name_at}
use Rattle.wrp_config.specs.declared.network.Network.{Network}
use Rattle.wrp_simulate.proofs.SimLines.{sum_text}
use Rattle.wrp_simulate.proofs.simulation.append_sum.Goals as goal

pub returns : goal.returns
returns g c =
    let asked = c.requires.bound in
    IfOk-weaker c.append_sum_line.result _ _
    (λ x wrote s w offs stands tells.
    sum_text _ s w c.args.world.now c.args.node c.node-own.result.now c.ticks.result c.servo.result c.name_of-name.result.now _ c.args.total offs c.append_sum_line.new.text.items c.args.text.now.items
    stands c.node-own.ensures c.ticks.ensures.run c.servo.ensures
    (c.name_of-name.ensures ∙ ap (λ (net : Network). name_at net.cfg c.args.node) c.net.ensures)
    (search (asked, to_z-of_z, rules)) tells wrote)
    c.append_sum_line.ensures.ok
