-- The numbers of a hop are those of its two nodes.
use Rattle.std.proofs.Common.{◌≡◌, ◌∙◌, refl, ap, ap₂, sym, ℕ, max, if◌then◌else◌, is_some, Option, None, Some}
use Rattle.std.specs.Option.{option_map_or}
use Rattle.std.specs.Prelude.{option_and_then, slice_get}
use Rattle.std.proofs.lemmas.Option.{none-some, same_Some}
use Rattle.wrp_network.specs.declared.configuration.NetCfg.{NetCfg}
use Rattle.wrp_network.specs.declared.network.LinkCfg.{LinkCfg}
use Rattle.wrp_network.specs.declared.network.NodeCfg.{NodeCfg}
use Rattle.wrp_network.specs.Network.{link_above}
use Rattle.wrp_bounds.specs.declared.numbers.HopNumbers.{HopNumbers}
use Rattle.wrp_bounds.specs.Bounds.{numbers_between, numbers_of, numbers_over}
use Rattle.wrp_bounds.specs.Times.{gap_time, age_time, reach}
use Rattle.wrp_course.specs.Runs.{IsNetwork}
use Rattle.wrp_course.specs.Setting.{Setting, link_of, of_node}
use Rattle.wrp_bound_laws.specs.Rates.{greatest_rate}
use Rattle.wrp_bound_laws.proofs.Runs.LinksAbove.{above_is}

-- what a hop has of its nodes
pub record HopHas (s : Setting) (link : LinkCfg) (hop : HopNumbers) : Type 0 where
  pub clock : hop.clock ≡ s.cfg.clock
  pub own : hop.own.rate ≡ greatest_rate s link.lower
  pub parent : hop.parent.rate ≡ greatest_rate s link.upper
  pub beat : hop.beat ≡ of_node (λ node. node.beat) s link.lower
  pub gap : hop.gap_time ≡ gap_time s.cfg
  pub age : hop.age_time ≡ age_time s.cfg
  pub reach_is : hop.reach ≡ reach s.cfg
  pub own_tag : hop.own.e_tag ≡ of_node (λ node. node.e_tag) s link.lower
  pub own_tx : hop.own.e_tx ≡ of_node (λ node. node.e_tx) s link.lower
  pub parent_tag : hop.parent.e_tag ≡ of_node (λ node. node.e_tag) s link.upper
  pub parent_tx : hop.parent.e_tx ≡ of_node (λ node. node.e_tx) s link.upper

rate_is : (s : Setting) (n : ℕ) (node : NodeCfg) → slice_get s.cfg.nodes.items n ≡ Some node → (if is_some (link_above s.cfg n) then max node.slew node.held else 0) ≡ greatest_rate s n
rate_is s n node e =
    ap₂ (λ a b. if is_some (link_above s.cfg n) then max a b else 0)
    (sym (ap (λ o. option_map_or (λ (x : NodeCfg). x.slew) o 0) e)) (sym (ap (λ o. option_map_or (λ (x : NodeCfg). x.held) o 0) e))

between : (s : Setting) (link : LinkCfg) (hop : HopNumbers) (o p : Option NodeCfg) → slice_get s.cfg.nodes.items link.lower ≡ o → slice_get s.cfg.nodes.items link.upper ≡ p → numbers_between s.cfg link o p ≡ Some hop → HopHas s link hop
between s link hop (Some own) (Some parent) e f is =
    let it : _ ≡ hop = same_Some _ hop is in
    record {
      clock = sym (ap (λ (h : HopNumbers). h.clock) it);
      own = sym (ap (λ (h : HopNumbers). h.own.rate) it) ∙ rate_is s link.lower own e;
      parent = sym (ap (λ (h : HopNumbers). h.parent.rate) it) ∙ rate_is s link.upper parent f;
      beat = sym (ap (λ (h : HopNumbers). h.beat) it) ∙ sym (ap (λ o. option_map_or (λ (x : NodeCfg). x.beat) o 0) e);
      gap = sym (ap (λ (h : HopNumbers). h.gap_time) it);
      age = sym (ap (λ (h : HopNumbers). h.age_time) it);
      reach_is = sym (ap (λ (h : HopNumbers). h.reach) it);
      own_tag = sym (ap (λ (h : HopNumbers). h.own.e_tag) it) ∙ sym (ap (λ o. option_map_or (λ (x : NodeCfg). x.e_tag) o 0) e);
      own_tx = sym (ap (λ (h : HopNumbers). h.own.e_tx) it) ∙ sym (ap (λ o. option_map_or (λ (x : NodeCfg). x.e_tx) o 0) e);
      parent_tag = sym (ap (λ (h : HopNumbers). h.parent.e_tag) it) ∙ sym (ap (λ o. option_map_or (λ (x : NodeCfg). x.e_tag) o 0) f);
      parent_tx = sym (ap (λ (h : HopNumbers). h.parent.e_tx) it) ∙ sym (ap (λ o. option_map_or (λ (x : NodeCfg). x.e_tx) o 0) f);
    }
between s link hop None p e f is = absurd (none-some hop is)
between s link hop (Some own) None e f is = absurd (none-some hop is)

over_is : (net : NetCfg) (link : LinkCfg) → numbers_over net link ≡ numbers_between net link (slice_get net.nodes.items link.lower) (slice_get net.nodes.items link.upper)
unfolding numbers_over
over_is net link = refl

pub hop_has : (s : Setting) → IsNetwork s → (k : ℕ) (link : LinkCfg) (hop : HopNumbers) → link_of s k ≡ Some link → numbers_of s.cfg link.lower ≡ Some hop → HopHas s link hop
hop_has s net k link hop is numbers =
    between s link hop (slice_get s.cfg.nodes.items link.lower) (slice_get s.cfg.nodes.items link.upper) refl refl
    (sym (over_is s.cfg link) ∙ sym (ap (option_and_then (numbers_over s.cfg)) (above_is s net k link is)) ∙ numbers)
