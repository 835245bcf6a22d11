-- The counters are those of the node in the world.
use Rattle.std.proofs.lemmas.Result.{IfOk-weaker}
use Rattle.wrp_network_world.proofs.NodeCounts.{counted_node, owns_ports_of}
use Rattle.wrp_network_world.proofs.counts.append_node.Goals as goal

pub append_counts-requires-clause-ports : goal.append_counts-requires-clause-ports
append_counts-requires-clause-ports g c =
    owns_ports_of _ c.requires.valid.setting c.requires.valid.state c.args.world.now c.net.result.now c.args.node c.node.result.now c.requires.valid.stands c.net.ensures c.node.ensures

pub returns : goal.returns
returns g c =
    IfOk-weaker c.append_counts.result _ _
    (λ x counts s w stands.
    counted_node _ s w c.args.world.now c.net.result.now c.args.node c.node.result.now c.append_counts.new.text.items c.args.text.now.items stands c.net.ensures c.node.ensures counts)
    c.append_counts.ensures
