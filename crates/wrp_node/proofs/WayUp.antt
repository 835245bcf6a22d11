-- The way up from a node: link by link, to the grandmaster.
use Rattle.std.proofs.Common.{◌≡◌, ℕ, zero, suc, ◌+◌, ◌-◌, ◌<◌, ◌≤◌, refl, ap, sym, subst, ◌∙◌, Some, None, slice_get, arith}
use Rattle.std.specs.Prelude.{◌==◌}
use Rattle.wrp_network.specs.declared.configuration.NetCfg.{NetCfg}
use Rattle.wrp_network.specs.declared.network.LinkCfg.{LinkCfg}
use Rattle.wrp_network.specs.Network.{IsTree, IsGrandmaster, HasDepth, link_above, node_count}
use Rattle.wrp_base.proofs.Lists.{found_at}
use Rattle.wrp_node.specs.Set.{steps_up, top_up}

-- ---- link by link

-- at the top there is no way up
steps-top : (most : ℕ) (net : NetCfg) (n : ℕ) → link_above net n ≡ None → steps_up most net n ≡ 0
unfolding steps_up
steps-top zero net n top = refl
steps-top (suc most) net n top = rw (top, steps_up) refl

ends-top : (most : ℕ) (net : NetCfg) (n : ℕ) → link_above net n ≡ None → top_up most net n ≡ n
unfolding top_up
ends-top zero net n top = refl
ends-top (suc most) net n top = rw (top, top_up) refl

-- below it the way goes over the link above
steps-over : (most : ℕ) (net : NetCfg) (n : ℕ) (link : LinkCfg) → link_above net n ≡ Some link → steps_up (suc most) net n ≡ suc (steps_up most net link.upper)
unfolding steps_up
steps-over most net n link above = rw (above, steps_up) refl

ends-over : (most : ℕ) (net : NetCfg) (n : ℕ) (link : LinkCfg) → link_above net n ≡ Some link → top_up (suc most) net n ≡ top_up most net link.upper
unfolding top_up
ends-over most net n link above = rw (above, top_up) refl

-- ---- the walk

-- what is passed so far and what is left make the way
pub record Passed (net : NetCfg) (n at passed : ℕ) : Type 0 where
  pub steps : passed + steps_up (8 - passed) net at ≡ steps_up 8 net n
  pub top : top_up (8 - passed) net at ≡ top_up 8 net n

pub passed_more : (net : NetCfg) (n at passed : ℕ) (link : LinkCfg) → passed < 8 → Some link ≡ link_above net at → Passed net n at passed → Passed net n link.upper (passed + 1)
passed_more net n at passed link few above so_far =
    let left : 8 - passed ≡ suc (8 - (passed + 1)) = omega arith in
    let steps : steps_up (8 - passed) net at ≡ suc (steps_up (8 - (passed + 1)) net link.upper) =
    ap (λ (most : ℕ). steps_up most net at) left ∙ steps-over (8 - (passed + 1)) net at link (sym above) in
    let top : top_up (8 - passed) net at ≡ top_up (8 - (passed + 1)) net link.upper =
    ap (λ (most : ℕ). top_up most net at) left ∙ ends-over (8 - (passed + 1)) net at link (sym above) in
    record { steps = omega (arith, steps, so_far.steps); top = sym top ∙ so_far.top }

-- at the top all is passed
pub passed_all : (net : NetCfg) (n at passed : ℕ) → None ≡ link_above net at → Passed net n at passed → (passed ≡ steps_up 8 net n) × (at ≡ top_up 8 net n)
passed_all net n at passed top so_far =
    let none : steps_up (8 - passed) net at ≡ 0 = steps-top (8 - passed) net at (sym top) in
    (omega (arith, none, so_far.steps), sym (ends-top (8 - passed) net at (sym top)) ∙ so_far.top)

-- and after eight links too
pub passed_eight : (net : NetCfg) (n at passed : ℕ) → 8 ≤ passed → Passed net n at passed → (passed ≡ steps_up 8 net n) × (at ≡ top_up 8 net n)
unfolding steps_up top_up
passed_eight net n at passed all so_far =
    let left : 8 - passed ≡ 0 = omega arith in
    let none : steps_up (8 - passed) net at ≡ 0 = ap (λ (most : ℕ). steps_up most net at) left in
    let top : top_up (8 - passed) net at ≡ at = ap (λ (most : ℕ). top_up most net at) left in
    (omega (arith, none, so_far.steps), sym top ∙ so_far.top)

-- ---- in a tree

-- the way has as many links as the node is deep
steps-deep : (net : NetCfg) (depth most n : ℕ) → HasDepth net depth n → depth ≤ most → steps_up most net n ≡ depth
steps-deep net zero most n top enough = steps-top most net n top
steps-deep net (suc depth) zero n deep enough = absurd (omega arith)
steps-deep net (suc depth) (suc most) n deep enough =
    steps-over most net n deep.0 deep.1 ∙ ap suc (steps-deep net depth most deep.0.upper deep.2 (omega arith))

pub steps_are_depth : (net : NetCfg) (n : ℕ) → IsTree net → n < node_count net → HasDepth net (steps_up 8 net n) n
steps_are_depth net n tree within =
    let deep : (depth : ℕ) × (depth ≤ 8) × HasDepth net depth n = tree.shallow n within in
    subst (λ (depth : ℕ). HasDepth net depth n) (sym (steps-deep net deep.0 8 n deep.2 deep.1)) deep.2

-- it ends at a node that has no link above it
ends-deep : (net : NetCfg) (depth most n : ℕ) → IsTree net → n < node_count net → HasDepth net depth n → depth ≤ most → IsGrandmaster net (top_up most net n)
ends-deep net zero most n tree within top enough = subst (λ (m : ℕ). IsGrandmaster net m) (sym (ends-top most net n top)) (within, top)
ends-deep net (suc depth) zero n tree within deep enough = absurd (omega arith)
ends-deep net (suc depth) (suc most) n tree within deep enough =
    let link : LinkCfg = deep.0 in
    let at : (l : ℕ) × (slice_get net.links.items l ≡ Some link) = found_at (λ link. link.lower == n) net.links.items link deep.1 in
    let above : IsGrandmaster net (top_up most net link.upper) = ends-deep net depth most link.upper tree (tree.ends at.0 link at.1).0 deep.2 (omega arith) in
    subst (λ (m : ℕ). IsGrandmaster net m) (sym (ends-over most net n link deep.1)) above

-- and so at the grandmaster
pub ends_at_grandmaster : (net : NetCfg) (n top : ℕ) → IsTree net → n < node_count net → IsGrandmaster net top → top_up 8 net n ≡ top
ends_at_grandmaster net n top tree within is =
    let deep : (depth : ℕ) × (depth ≤ 8) × HasDepth net depth n = tree.shallow n within in
    tree.one_grandmaster (top_up 8 net n) top (ends-deep net deep.0 8 n tree within deep.2 deep.1) is
