-- What a line says so far of a network (this project's profile).
use Rattle.std.specs.Prelude.{◌≡◌, Option, None, Some, length}
use Rattle.std.specs.List.{AllByRecursion}
use Rattle.wrp_network.specs.declared.configuration.NetCfg.{NetCfg}
use Rattle.wrp_network.specs.Network.{node_count}
use Rattle.wrp_course.specs.EventAt.{link_count, IsChange, IsMove}
use Rattle.wrp_trace.specs.Changes.{SaidAt}

-- what is said fits, if it is said
abbrev pub Fits : {X : Type 0} → (X → Type 0) → Option X → Type 0
Fits P None = Unit {0}
Fits P (Some x) = P x

-- what a line says so far fits the network
pub record IsSaid (cfg : NetCfg) (said : SaidAt) : Type 0 where
  pub nodes : length said.drifts ≡ node_count cfg
  pub links : length said.moves ≡ link_count cfg
  pub drift : AllByRecursion (Fits IsChange) said.drifts
  pub move : AllByRecursion (Fits IsMove) said.moves
