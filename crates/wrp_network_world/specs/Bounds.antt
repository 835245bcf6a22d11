-- The bounds of the nodes of a network in TRACK (this project's profile).
use Rattle.std.specs.Prelude.{◌≡◌, ◌<◌, ◌^◌, ℤ, pos, List, length}
use Rattle.wrp_network.specs.declared.configuration.NetCfg.{NetCfg}
use Rattle.wrp_network.specs.Network.{node_count}
use Rattle.wrp_bounds.specs.Bounds.{path_of}
use Rattle.wrp_plant.specs.Plant.{Each}

-- each node's bound in TRACK, in tau; none is too great
pub record AreBounds (cfg : NetCfg) (bounds : List ℤ) : Type 0 where
  pub count : length bounds ≡ node_count cfg
  pub each : Each (λ n bound. bound ≡ pos (path_of cfg n)) bounds
  pub small : Each (λ n bound. path_of cfg n < 2 ^ 100) bounds
