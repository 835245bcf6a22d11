-- Each node has its bound.
use Rattle.std.proofs.Common.{◌≡◌, ◌∙◌, ◌+◌, ◌<◌, ◌^◌, ℕ, pos, ap, of_z, subst, sym, to_z, arith, length}
use Rattle.std.proofs.lemmas.Int.{to_z-of_z}
use Rattle.std.specs.Int.{w128}
use Rattle.wrp_bounds.specs.Bounds.{path_of}
use Rattle.wrp_plant.proofs.EachLists.{each_push, length_push}
use Rattle.wrp_plant.specs.Plant.{Each}
use Rattle.wrp_network_world.proofs.BoundLemmas.{small_path}
use Rattle.wrp_network_world.proofs.bounds.bounds_of.Goals as goal

pub loop-node-preserved : goal.loop-node-preserved
loop-node-preserved c =
    let items = c.in_ok-push.ensures.items in
    let test = c.loop-node-test.true in
    let count = c.count_of-count.ensures in
    let value = to_z-of_z w128 c.path.result (record { sfits = c.path.type_inv }) ∙ c.path.ensures.value in
    record {
      within = omega (arith, test, count);
      count = ap length items ∙ length_push c.loop-node.bounds.items _ ∙ ap (λ (k : ℕ). k + 1) c.loop-node.invariant.count;
      each = subst (Each (λ n bound. bound ≡ pos (path_of c.args.net.now.cfg n))) (sym items)
          (each_push (λ n bound. bound ≡ pos (path_of c.args.net.now.cfg n)) c.loop-node.bounds.items (to_z w128 (of_z w128 c.path.result)) c.loop-node.invariant.each
          (subst (λ (k : ℕ). to_z w128 (of_z w128 c.path.result) ≡ pos (path_of c.args.net.now.cfg k)) (sym c.loop-node.invariant.count) value));
      small = subst (Each (λ n bound. path_of c.args.net.now.cfg n < 2 ^ 100)) (sym items)
          (each_push (λ n bound. path_of c.args.net.now.cfg n < 2 ^ 100) c.loop-node.bounds.items (to_z w128 (of_z w128 c.path.result)) c.loop-node.invariant.small
          (subst (λ (k : ℕ). path_of c.args.net.now.cfg k < 2 ^ 100) (sym c.loop-node.invariant.count) (small_path c.path.result (path_of c.args.net.now.cfg c.loop-node.node) c.path.ensures.value c.path.ensures.range.1)));
    }
