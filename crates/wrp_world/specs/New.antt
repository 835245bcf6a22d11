-- A world before any event: its setting, and its nodes with their laws (this project's profile).
use Rattle.std.specs.Prelude.{◌≡◌, ◌≤◌, ℕ, ℤ, List, [], Option, Some, IfSome, slice_get, option_and_then}
use Rattle.std.specs.Option.{is_some}
use Rattle.wrp_network.specs.declared.configuration.NetCfg.{NetCfg}
use Rattle.wrp_network.specs.declared.network.LinkCfg.{LinkCfg}
use Rattle.wrp_network.specs.Network.{link_above}
use Rattle.wrp_caldb.specs.Database.{Database}
use Rattle.wrp_law.specs.declared.delay.LawKind.TheVariants.{Linear}
use Rattle.wrp_law.specs.Law.{LawOf, KeepsFact}
use Rattle.wrp_node.specs.Control.{law_in}
use Rattle.wrp_node.specs.New.{low_of, high_of, node_setting_of}
use Rattle.wrp_node.specs.Node.{IsValid as NodeIsValid}
use Rattle.wrp_node.specs.Set.{set_of}
use Rattle.wrp_node.specs.StandsFor.{NodeOf, StandsFor as NodeStandsFor}
use Rattle.wrp_course.specs.Setting.{Setting}

-- the law of a node, if it has one
abbrev pub law_at : {F : Type 0} → List (Option (LawOf F)) → ℕ → Option (LawOf F)
law_at laws n = option_and_then (λ law. law) (slice_get laws n)

-- each node is set to its part of the network
abbrev pub setting_of : {F : Type 0} → NetCfg → Database → List (Option (LawOf F)) → Setting
setting_of cfg db laws = record {
  cfg = cfg;
  db = db;
  set = set_of cfg;
  lo = λ n. low_of (law_at laws n);
  hi = λ n. high_of (law_at laws n);
}

-- the law of a node keeps its fact, is of the same kind as the link above the node, and has at most its error;
-- the grandmaster has none
pub record FitsLaw {F : Type 0} (pre : F → ℤ → Type 0) (post : F → ℤ → ℤ → Type 0) (cfg : NetCfg) (n : ℕ) (law : Option (LawOf F)) : Type 0 where
  pub place : is_some law ≡ is_some (link_above cfg n)
  pub fact : IfSome law (KeepsFact pre post)
  pub kind : (link : LinkCfg) → link_above cfg n ≡ Some link → IfSome law (λ l. l.kind ≡ Linear link.kappa)
  pub err : (link : LinkCfg) → link_above cfg n ≡ Some link → IfSome law (λ l. l.err ≤ link.law_err)

-- a node before any input
pub record IsNewNode {F : Type 0} (pre : F → ℤ → Type 0) (post : F → ℤ → ℤ → Type 0) (cfg : NetCfg) (laws : List (Option (LawOf F))) (n : ℕ) (node : NodeOf F) : Type 0 where
  pub stands : NodeStandsFor post (node_setting_of (set_of cfg n) (law_at laws n)) node []
  pub valid : NodeIsValid pre post node
  pub law : law_in node.control ≡ law_at laws n
