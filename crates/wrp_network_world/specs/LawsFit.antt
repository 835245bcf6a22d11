-- The delay laws of all nodes of a network (this project's profile).
use Rattle.std.specs.Prelude.{◌≡◌, ℕ, ℤ, IfSome, List, Option, is_some, length}
use Rattle.wrp_network.specs.Network.{link_above, node_count}
use Rattle.wrp_config.specs.declared.network.Network.{Network}
use Rattle.wrp_law.specs.declared.link_law.LinkLaw.{LinkLaw}
use Rattle.wrp_law.specs.Law.{LawOf}
use Rattle.wrp_law.specs.LinkLaw.{error_of, kind_of, least_of, most_of}
use Rattle.wrp_world.specs.New.{FitsLaw}
use Rattle.wrp_plant.specs.Plant.{Each}
use Rattle.wrp_course.specs.Setting.{Setting}
use Rattle.wrp_node.specs.Control.{law_in}
use Rattle.wrp_world.specs.StandsFor.{WorldOf}
use Rattle.wrp_trace.specs.LineSetting.{line_setting_in}
use Rattle.wrp_network_world.specs.NetworkSetting.{setting_in}
use Rattle.wrp_replay.specs.DownLaw.{AnswersBy, IsLawAt, law_at}
use Rattle.wrp_replay.specs.LinkLaw.{IsLawOver}

-- a kept law that has the numbers of a link's law
pub record HasNumbers {F : Type 0} (link : LinkLaw) (law : LawOf F) : Type 0 where
  pub kind : law.kind ≡ kind_of link
  pub least : law.lo ≡ least_of link
  pub greatest : law.hi ≡ most_of link
  pub error : law.err ≡ error_of link

-- a node's law as it is made: the closure has the law of the link above the node, if there is one
pub record IsMade {F : Type 0} (has : F → LinkLaw) (net : Network) (n : ℕ) (law : Option (LawOf F)) : Type 0 where
  pub some : is_some law ≡ is_some (link_above net.cfg n)
  pub link : IfSome law (λ k. IsLawOver net.db (link_above net.cfg n) (has k.closure))
  pub numbers : IfSome law (λ k. HasNumbers (has k.closure) k)

-- a node's law fits the network, and is the law of the link above it
pub record FitsAt {F : Type 0} (pre : F → ℤ → Type 0) (post : F → ℤ → ℤ → Type 0) (net : Network) (n : ℕ)
    (law : Option (LawOf F)) : Type 0 where
  pub fits : FitsLaw pre post net.cfg n law
  pub is : IsLawAt pre post (line_setting_in (setting_in net) n) law

-- each node has such a law
pub record LawsFit {F : Type 0} (pre : F → ℤ → Type 0) (post : F → ℤ → ℤ → Type 0) (net : Network)
    (laws : List (Option (LawOf F))) : Type 0 where
  pub count : length laws ≡ node_count net.cfg
  pub each : Each (FitsAt pre post net) laws

-- for a world: the law of each node is the law of the link above it
abbrev pub HasLawOf : {F : Type 0} → (F → ℤ → ℤ → Type 0) → Setting → WorldOf F → Type 0
HasLawOf post s world =
    Each (λ n node. IfSome (law_in node.control) (AnswersBy post (law_at (line_setting_in s n)))) world.nodes
