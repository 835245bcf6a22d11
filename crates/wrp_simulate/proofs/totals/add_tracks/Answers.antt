-- Each step is counted.
use Rattle.std.proofs.Common.{◌∙◌, arith, refl, rules}
use Rattle.std.proofs.lemmas.Int.{to_z-of_z}
use Rattle.std.proofs.lemmas.List.{length-set}
use Rattle.std.proofs.lemmas.Option.{slice_get_read}
use Rattle.wrp_simulate.proofs.SimLines.{adds_all, adds_at, adds_none, node_within}
use Rattle.wrp_simulate.proofs.totals.add_tracks.Goals as goal

pub loop-out-init : goal.loop-out-init
loop-out-init g c = record { count = refl; adds = λ s w stands. adds_none w c.args.outs.now c.args.totals.now.items }

pub index-requires : goal.index-requires
index-requires g c =
    let within = node_within _ c.args.outs.now c.loop-out.out-index c.out-item.result c.requires.nodes c.loop-out-test.true c.out-item.is in
    let at = c.from-at.ensures in
    let now = c.loop-out.invariant.count in
    let all = c.requires.count in
    omega (arith, within, at, now, all)

pub off-requires-clause-node : goal.off-requires-clause-node
off-requires-clause-node g c =
    let within = node_within _ c.args.outs.now c.loop-out.out-index c.out-item.result c.requires.nodes c.loop-out-test.true c.out-item.is in
    let all = c.requires.valid.node_count in
    omega (arith, within, all)

pub index_mut-requires : goal.index_mut-requires
index_mut-requires g c =
    let within = node_within _ c.args.outs.now c.loop-out.out-index c.out-item.result c.requires.nodes c.loop-out-test.true c.out-item.is in
    let at = c.from-at.ensures in
    let now = c.loop-out.invariant.count in
    let all = c.requires.count in
    omega (arith, within, at, now, all)

pub loop-out-preserved : goal.loop-out-preserved
loop-out-preserved g c =
    let within = node_within _ c.args.outs.now c.loop-out.out-index c.out-item.result c.requires.nodes c.loop-out-test.true c.out-item.is in
    let at = c.from-at.ensures in
    let now = c.loop-out.invariant.count in
    let all = c.requires.count in
    record {
      count = length-set c.loop-out.totals.items c.from-at.result c.with_all.result ∙ now;
      adds = λ s w stands.
          adds_at w c.args.outs.now c.loop-out.out-index c.out-item.result c.from-at.result _ c.deref.result.now c.args.totals.now.items c.loop-out.totals.items c.index.result.now c.with_all.result
          c.loop-out-test.true (c.loop-out.invariant.adds s w stands) c.out-item.is at
          (let off = c.off.ensures s w stands in search (off, to_z-of_z, rules)) c.deref.ensures.0
          (slice_get_read c.loop-out.totals.items _ c.from-at.result c.index.result.now refl (omega (arith, within, at, now, all)) c.index.ensures) c.with_all.ensures;
    }

pub returns-clause-each : goal.returns-clause-each
returns-clause-each g c = λ s w stands. adds_all w c.args.outs.now c.loop-out.out-index c.args.totals.now.items c.loop-out.totals.items c.loop-out-test.false (c.loop-out.invariant.adds s w stands)
