-- What a world is asked: sizes, and what is read of its nodes and links.
use Rattle.std.proofs.Common.{◌≡◌, ◌∙◌, ap, sym, ℕ, ℤ, length, Some, slice_get}
use Rattle.wrp_network.specs.declared.configuration.NetCfg.{NetCfg}
use Rattle.wrp_network.specs.declared.network.LinkCfg.{LinkCfg}
use Rattle.wrp_network.specs.declared.network.NodeCfg.{NodeCfg}
use Rattle.wrp_course.specs.Setting.{Setting, from_on, link_of, nodes_of}
use Rattle.wrp_world.specs.StandsFor.{IsValid, StandsFor, WorldOf}
use Rattle.wrp_course.specs.WorldAt.{WorldAt}

-- a link and a node, as the setting has them
pub link_is : {F : Type 0} (post : F → ℤ → ℤ → Type 0) (s : Setting) (w : WorldAt) (world : WorldOf F) (k : ℕ) (link : LinkCfg) → StandsFor post s w world →
    slice_get world.plant.net.cfg.links.items k ≡ Some link → link_of s k ≡ Some link
link_is post s w world k link h e = ap (λ (cfg : NetCfg). slice_get cfg.links.items k) (sym h.plant.cfg) ∙ e

pub node_is : {F : Type 0} (post : F → ℤ → ℤ → Type 0) (s : Setting) (w : WorldAt) (world : WorldOf F) (n : ℕ) (node : NodeCfg) → StandsFor post s w world →
    slice_get world.plant.net.cfg.nodes.items n ≡ Some node → slice_get s.cfg.nodes.items n ≡ Some node
node_is post s w world n node h e = ap (λ (cfg : NetCfg). slice_get cfg.nodes.items n) (sym h.plant.cfg) ∙ e

-- the nodes of a world are those of its setting
pub nodes_are : {F : Type 0} (pre : F → ℤ → Type 0) (post : F → ℤ → ℤ → Type 0) (s : Setting) (w : WorldAt) (world : WorldOf F) → IsValid pre post world → StandsFor post s w world →
    from_on (length world.nodes) 0 ≡ nodes_of s
nodes_are pre post s w world v h = ap (λ n. from_on n 0) (v.node_count ∙ ap (λ (cfg : NetCfg). length cfg.nodes.items) h.plant.cfg)
