-- Each node has its lines.
use Rattle.std.proofs.Common.{◌∙◌, ◌<◌, ap, arith}
use Rattle.wrp_network.specs.Network.{node_count}
use Rattle.wrp_config.specs.declared.network.Network.{Network}
use Rattle.wrp_network_world.proofs.NodeCounts.{all_nodes, node_less, no_node_less}
use Rattle.wrp_network_world.proofs.counts.append_all_counts.Goals as goal

pub loop-node-init : goal.loop-node-init
loop-node-init g c = record { within = omega arith; lacks = λ s w stands. all_nodes s w _ _ }

pub loop-node-preserved : goal.loop-node-preserved
loop-node-preserved g c =
    let count = c.count_of-count.ensures ∙ ap (λ (net : Network). node_count net.cfg) c.net.ensures in
    let test = c.loop-node-test.true in
    let is : c.loop-node.node < node_count c.args.world.now.plant.net.cfg = omega (arith, test, count) in
    record {
      within = omega (arith, is);
      lacks = λ s w stands.
          node_less s w _ c.loop-node.node c.loop-node.text.items c.append_node.new.text.items _ is (c.loop-node.invariant.lacks s w stands) (c.in_ok-append_node.ensures s w stands);
    }

pub returns : goal.returns
returns g c = λ s w stands.
    let count = c.count_of-count.ensures ∙ ap (λ (net : Network). node_count net.cfg) c.net.ensures in
    let test = c.loop-node-test.false in
    no_node_less s w _ c.loop-node.node c.loop-node.text.items _ (omega (arith, test, count)) (ap node_count stands.plant.cfg)
    (c.loop-node.invariant.lacks s w stands)
