-- Worlds in a run whose events' numbers fit the types that hold them, with a fitting law for each node that has a link
-- above it (this project's profile).
use Rattle.std.specs.Prelude.{◌≡◌, ℤ, length, List}
use Rattle.wrp_network.specs.declared.configuration.NetCfg.{NetCfg}
use Rattle.wrp_network.specs.Network.{node_count}
use Rattle.wrp_course.specs.Run.{Happened}
use Rattle.wrp_course.specs.Setting.{Setting}
use Rattle.wrp_plant.specs.Plant.{Each}
use Rattle.wrp_bound_laws.specs.Chains.{AllFit}
use Rattle.wrp_world.specs.InRun.{InRun}
use Rattle.wrp_world.specs.New.{FitsLaw}
use Rattle.wrp_world.specs.StandsFor.{WorldOf}
use Rattle.wrp_world.specs.Taking.{laws_of}

-- each node has a law that fits the link above it and keeps its fact; the grandmaster has none
pub record HasFittingLaws {F : Type 0} (pre : F → ℤ → Type 0) (post : F → ℤ → ℤ → Type 0) (cfg : NetCfg) (world : WorldOf F) : Type 0 where
  pub count : length world.nodes ≡ node_count cfg
  pub each : Each (FitsLaw pre post cfg) (laws_of world)

-- the world stands for what these events, a run of its network, make of the first world; their numbers fit the types
-- that hold them; and each node has a fitting law
pub record InTrueRun {F : Type 0} (pre : F → ℤ → Type 0) (post : F → ℤ → ℤ → Type 0) (s : Setting) (events : List Happened) (world : WorldOf F) : Type 0 where
  pub run : InRun post s events world
  pub fit : AllFit events
  pub laws : HasFittingLaws pre post s.cfg world
