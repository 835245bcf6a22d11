use Rattle.std.proofs.Common.{◌≡◌, ◌∙◌, ap, sym, ℕ, List, [], ◌∷◌, ◌++◌, length, ◌+◌, None, Some, slice_get, arith}
use Rattle.wrp_plant.proofs.EachLists.{each_push, length_push}
use Rattle.wrp_world.proofs.TakenLaws.{taken, left_on, all_taken, new_node}
use Rattle.wrp_world.proofs.world.new.new_nodes.Goals as goal

none_some : {A : Type 0} (x : A) → None ≡ Some x → ⊥
none_some x e = cc

counted : {A : Type 0} (ys xs : List A) (x : A) (n : ℕ) → ys ≡ xs ++ (x ∷ []) → length xs ≡ n → length ys ≡ n + 1
counted ys xs x n e h = ap length e ∙ length_push xs x ∙ ap (λ k. k + 1) h

pub loop-law-init : goal.loop-law-init
loop-law-init g c = (
  tt,
  tt,
  c.into_iter-law-iterator.ensures.into_iter_gives.0,
  ap length c.in_ok-nodes.ensures.items,
  omega arith,
  λ n node e. absurd (none_some node (sym (ap (λ xs. slice_get xs n) c.in_ok-nodes.ensures.items) ∙ e)),
)

pub new_node-requires-clause-node : goal.new_node-requires-clause-node
new_node-requires-clause-node g c =
    let t = taken _ _ _ c.loop-law.n c.in-Some.law c.loop-law.invariant.2 c.in-Some.ensures.steps.0 in
    omega (arith, t.within, c.requires.count)

pub new_node-requires-clause-law : goal.new_node-requires-clause-law
new_node-requires-clause-law g c =
    let t = taken _ _ _ c.loop-law.n c.in-Some.law c.loop-law.invariant.2 c.in-Some.ensures.steps.0 in
    c.requires.laws c.loop-law.n c.in-Some.law t.at

pub overflow_add-n : goal.overflow_add-n
overflow_add-n g c =
    let t = taken _ _ _ c.loop-law.n c.in-Some.law c.loop-law.invariant.2 c.in-Some.ensures.steps.0 in
    omega (arith, t.within, c.requires.count, c.len-count.ensures.value, c.len-count.ensures.fits)

pub loop-law-preserved : goal.loop-law-preserved
loop-law-preserved g c =
    let t = taken _ _ _ c.loop-law.n c.in-Some.law c.loop-law.invariant.2 c.in-Some.ensures.steps.0 in
    let items = c.in_ok-push.ensures.items in (
      tt,
      tt,
      left_on _ _ _ _ t,
      counted _ c.loop-law.nodes.items _ c.loop-law.n items c.loop-law.invariant.3,
      omega (arith, t.within),
      λ n node e. each_push _ c.loop-law.nodes.items _ c.loop-law.invariant.5
          (new_node _ _ c.args.net.now.cfg c.args.laws.items c.next.new.self.rest.items c.loop-law.n (length c.loop-law.nodes.items) c.in-Some.law c.in_ok-new_node.field-0 t c.loop-law.invariant.3 c.in_ok-new_node.ensures.stands c.in_ok-new_node.ensures.valid c.in_ok-new_node.ensures.law)
          n node (sym (ap (λ xs. slice_get xs n) items) ∙ e),
    )

pub returns-clause-count : goal.returns-clause-count
returns-clause-count g c =
    let all = all_taken c.args.laws.items c.loop-law.law-iterator.rest.items c.loop-law.n c.loop-law.invariant.2 (omega (arith, c.in-None.ensures.steps.0, c.loop-law.law-iterator.rest.ok.0)) c.loop-law.invariant.4 in
    c.loop-law.invariant.3 ∙ all ∙ c.requires.count

pub returns-clause-each : goal.returns-clause-each
returns-clause-each g c = c.loop-law.invariant.5
