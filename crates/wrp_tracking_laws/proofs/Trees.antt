-- The bound on the way to the grandmaster, by the depth of a node.
use Rattle.std.proofs.Common.{◌≡◌, ℕ, ℤ, pos, zero, suc, ◌+◌, ◌*◌, ◌<◌, ◌≤◌, ◌+ℤ◌, ◌-ℤ◌, ◌≤ℤ◌, arith, inl, inr, Some, lit<}
use Rattle.std.proofs.lemmas.Int.{ints}
use Rattle.std.proofs.Math.Nat.{mul-le-mul_left}
use Rattle.std.specs.Prelude.{◌==◌, unsigned_abs}
use Rattle.wrp_network.specs.declared.configuration.NetCfg.{NetCfg}
use Rattle.wrp_network.specs.declared.network.LinkCfg.{LinkCfg}
use Rattle.wrp_base.specs.declared.link.ServoState.TheVariants.{Track}
use Rattle.wrp_network.specs.Network.{IsTree, IsLink, HasDepth, link_above, node_count}
use Rattle.wrp_base.specs.Closeness.{IsWithin}
use Rattle.wrp_base.proofs.Lists.{found_at}
use Rattle.wrp_bounds.specs.Bounds.{hop_of, path_of, holdover_of}
use Rattle.wrp_bounds.specs.Motion.{motion}
use Rattle.wrp_bounds.proofs.PathLaws.{path-child}
use Rattle.wrp_bounds.proofs.Rounding.{rounded_up-next}
use Rattle.wrp_tracking_laws.specs.Tree.{Offsets, HopsHold, TreeSum, HeldWithin}

-- the upper end of the link above a node is a node
upper_is_node : (net : NetCfg) (n : ℕ) (link : LinkCfg) → IsTree net → link_above net n ≡ Some link → link.upper < node_count net
upper_is_node net n link tree above =
    let at : (l : ℕ) × IsLink net l link = found_at (λ link. link.lower == n) net.links.items link above in
    (tree.ends at.0 link at.1).0

-- in TRACK a node is within its hop of a parent that is within its own bound
tracked : (n p : ℤ) (hop above : ℕ) → IsWithin hop n p → unsigned_abs p ≤ above → unsigned_abs n ≤ hop + above
tracked n p hop above near small = omega (arith, ints)

none_off : (off : ℤ) (above : ℕ) → off ≡ pos 0 → unsigned_abs off ≤ above
none_off off above is = omega (arith, ints)

-- in TRACK, by the depth
within_depth : (net : NetCfg) (w : Offsets) (depth n : ℕ) → IsTree net → n < node_count net → HopsHold net w → HasDepth net depth n → w.state n ≡ Track → unsigned_abs (w.off n) ≤ path_of net n
within_depth net w zero n tree within holds top track = none_off (w.off n) (path_of net n) (holds.top n top)
within_depth net w (suc depth) n tree within holds deep track =
    let link : LinkCfg = deep.0 in
    let upper : link.upper < node_count net = upper_is_node net n link tree deep.1 in
    let above : unsigned_abs (w.off link.upper) ≤ holdover_of net link.upper =
    elim (holds.source n link deep.1 track) [
      | inl top ↦ none_off (w.off link.upper) (holdover_of net link.upper) (holds.top link.upper top)
      | inr (inl follows) ↦ omega (arith, within_depth net w depth link.upper tree upper holds deep.2 follows)
      | inr (inr held) ↦ holds.held link.upper held
    ] in
    let sum : unsigned_abs (w.off n) ≤ hop_of net n + holdover_of net link.upper =
    tracked (w.off n) (w.off link.upper) (hop_of net n) (holdover_of net link.upper) (holds.hop n link deep.1 track) above in
    omega (arith, sum, path-child net n link tree within deep.1)

pub tree-sum : TreeSum
tree-sum net w n tree within holds =
    let deep : (depth : ℕ) × (depth ≤ 8) × HasDepth net depth n = tree.shallow n within in
    record {
      track = within_depth net w deep.0 n tree within holds deep.2;
      held = holds.held n;
    }

held_by : (o p : ℤ) (rate t g path r : ℕ) → unsigned_abs o ≤ path → unsigned_abs (p -ℤ o) * 1_000_000_000_000 ≤ rate * t → t ≤ g → rate * g ≤ 1_000_000_000_000 * r → unsigned_abs p ≤ path + r
held_by o p rate t g path r small slow near up =
    let more : rate * t ≤ rate * g = mul-le-mul_left rate near in
    omega (arith, ints)

pub span : (a b : ℤ) (g : ℕ) → a ≤ℤ b → b ≤ℤ (a +ℤ pos g) → unsigned_abs (b -ℤ a) ≤ g
span a b g later near = omega (arith, ints)

pub held-within : HeldWithin
held-within rate time path then_time now_time then_off now_off drifts small =
    held_by then_off now_off rate (unsigned_abs (now_time -ℤ then_time)) time path (motion rate time) small drifts.slow
    (span then_time now_time time drifts.order drifts.soon) (rounded_up-next (rate * time) 1_000_000_000_000 (lit< tt)).0
