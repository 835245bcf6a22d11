-- Another offset leaves a scenario.
use Rattle.std.proofs.Common.{◌≡◌, to_z, of_z, arith}
use Rattle.std.specs.Int.{w128}
use Rattle.wrp_scene.proofs.SignedReads.{read}
use Rattle.wrp_scene.specs.Scenario.{IsOffset}
use Rattle.wrp_scene.proofs.SceneLemmas.{with_offset}
use Rattle.wrp_scene.proofs.scene.Scene.offset_line.Goals as goal

pub returns-clause-scene : goal.returns-clause-scene
returns-clause-scene c =
    let off = c.off_of_ns.result in
    let same : to_z w128 (of_z w128 off) ≡ off = read off (omega (arith, c.off_of_ns.ensures.range)) in
    let fits : IsOffset (to_z w128 (of_z w128 off)) = rw same c.off_of_ns.ensures.range in
    rw c.put_offset.ensures
    (with_offset c.args.cfg.now c.args.self.now c.in_ok-node.node (to_z w128 (of_z w128 off)) c.in_ok-node.ensures.below fits c.requires)
