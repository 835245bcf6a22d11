-- Each node has its line.
use Rattle.std.proofs.Common.{◌∙◌, ◌<◌, ap, arith}
use Rattle.wrp_network.specs.Network.{node_count}
use Rattle.wrp_config.specs.declared.network.Network.{Network}
use Rattle.wrp_simulate.specs.SimStands.{IsTotal}
use Rattle.wrp_network_world.proofs.BoundLemmas.{bound_at}
use Rattle.wrp_network_world.proofs.BoundLemmas.{each_at}
use Rattle.wrp_simulate.proofs.SimLines.{all_sums, no_sum_less, sum_less}
use Rattle.wrp_simulate.proofs.simulation.append_all_sums.Goals as goal

pub loop-node-init : goal.loop-node-init
loop-node-init g c = record { within = omega arith; lacks = λ s w offs stands totals. all_sums s w offs _ _ }

pub append_sum-requires-clause-bound : goal.append_sum-requires-clause-bound
append_sum-requires-clause-bound g c =
    let count = c.count_of-count.ensures ∙ ap (λ (net : Network). node_count net.cfg) c.net.ensures in
    let test = c.loop-node-test.true in
    bound_at c.args.world.now.plant.net.cfg c.args.bounds.now c.from-at.result c.loop-node.node c.requires.bounds (omega (arith, test, count)) c.from-at.ensures

pub loop-node-preserved : goal.loop-node-preserved
loop-node-preserved g c =
    let count = c.count_of-count.ensures ∙ ap (λ (net : Network). node_count net.cfg) c.net.ensures in
    let test = c.loop-node-test.true in
    let is : c.loop-node.node < node_count c.args.world.now.plant.net.cfg = omega (arith, test, count) in
    let at = c.from-at.ensures in
    let all = c.requires.count in
    record {
      within = omega (arith, is);
      lacks = λ s w offs stands totals.
          sum_less s w offs _ c.loop-node.node c.loop-node.text.items c.append_sum.new.text.items _ is (c.loop-node.invariant.lacks s w offs stands totals)
          (c.in_ok-append_sum.ensures s w (offs c.loop-node.node) stands
          (each_at (λ n. IsTotal (offs n)) c.args.totals.now c.from-at.result c.loop-node.node _ totals (omega (arith, is, at, all)) at));
    }

pub returns : goal.returns
returns g c = λ s w offs stands totals.
    let count = c.count_of-count.ensures ∙ ap (λ (net : Network). node_count net.cfg) c.net.ensures in
    let test = c.loop-node-test.false in
    no_sum_less s w offs _ c.loop-node.node c.loop-node.text.items _ (omega (arith, test, count)) (ap node_count stands.plant.cfg)
    (c.loop-node.invariant.lacks s w offs stands totals)
