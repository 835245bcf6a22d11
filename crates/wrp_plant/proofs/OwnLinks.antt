-- The link above a node, if it is at the node's own place: no other link is above the node.
use Rattle.std.proofs.Common.{◌≡◌, ◌∙◌, refl, sym, ℕ, ◌<◌, ◌==◌, true, false, List, length, Option, None, Some, slice_get, true≢false}
use Rattle.std.proofs.lemmas.Bool.{eqb-true}
use Rattle.std.specs.List.{position}
use Rattle.std.specs.Option.{option_map_or}
use Rattle.wrp_base.proofs.Lists.{first_is}
use Rattle.wrp_network.specs.declared.configuration.NetCfg.{NetCfg}
use Rattle.wrp_network.specs.declared.network.LinkCfg.{LinkCfg}
use Rattle.wrp_network.specs.Network.{IsTree}
use Rattle.wrp_plant.proofs.EachLists.{at_place}

-- there is a link at this place, and it is above this node
pub record StandsAt (n k : ℕ) (links : List LinkCfg) : Type 0 where
  pub link : LinkCfg
  pub there : slice_get links k ≡ Some link
  pub lower : (link.lower == n) ≡ true

in_place : (n k : ℕ) (links : List LinkCfg) (o : Option LinkCfg) → slice_get links k ≡ o → option_map_or (λ link. link.lower == n) o false ≡ true → StandsAt n k links
in_place n k links None e h = absurd (true≢false (sym h))
in_place n k links (Some link) e h = record { link = link; there = e; lower = h }

pub stands_at : (n k : ℕ) (links : List LinkCfg) → option_map_or (λ link. link.lower == n) (slice_get links k) false ≡ true → StandsAt n k links
stands_at n k links h = in_place n k links (slice_get links k) refl h

pub own_place : (cfg : NetCfg) (n k : ℕ) → IsTree cfg → StandsAt n k cfg.links.items → position (λ link. link.lower == n) cfg.links.items ≡ Some k
own_place cfg n k tree at =
    first_is (λ link. link.lower == n) cfg.links.items k at.link at.there at.lower
    (λ i y there lower. tree.one_parent i k y at.link there at.there (eqb-true y.lower n lower ∙ sym (eqb-true at.link.lower n at.lower)))

pub own_within : (n k : ℕ) (links : List LinkCfg) → StandsAt n k links → k < length links
own_within n k links at = at_place links k at.link at.there
