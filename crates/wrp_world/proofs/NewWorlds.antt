-- A world before any event stands for the first state of a world, and each of its nodes stands for no inputs.
use Rattle.std.proofs.Common.{◌≡◌, refl, ℕ, ◌≤◌, ℤ, List, length, Option, arith}
use Rattle.wrp_network.specs.declared.configuration.NetCfg.{NetCfg}
use Rattle.wrp_network.specs.Network.{node_count}
use Rattle.wrp_caldb.specs.Database.{Database}
use Rattle.wrp_law.specs.Law.{LawOf}
use Rattle.wrp_world.specs.New.{IsNewNode, setting_of}
use Rattle.wrp_plant.specs.Plant.{Each, FitsPlant, PlantIs}
use Rattle.wrp_world.specs.StandsFor.{IsValid, StandsFor, WorldOf}
use Rattle.wrp_course.specs.WorldAt.{new_world}

-- what the code makes of a network and of laws
pub record IsNewWorld {F : Type 0} (pre : F → ℤ → Type 0) (post : F → ℤ → ℤ → Type 0) (cfg : NetCfg) (db : Database) (laws : List (Option (LawOf F))) (world : WorldOf F) : Type 0 where
  pub plant : PlantIs (setting_of cfg db laws) (new_world (setting_of cfg db laws)) world.plant
  pub fits : FitsPlant world.plant
  pub count : length world.nodes ≡ node_count world.plant.net.cfg
  pub nodes : Each (IsNewNode pre post cfg laws) world.nodes

pub new_stands : {F : Type 0} (pre : F → ℤ → Type 0) (post : F → ℤ → ℤ → Type 0) (cfg : NetCfg) (db : Database) (laws : List (Option (LawOf F))) (world : WorldOf F) →
    IsNewWorld pre post cfg db laws world → StandsFor post (setting_of cfg db laws) (new_world (setting_of cfg db laws)) world
new_stands pre post cfg db laws world h = record {
  set = λ n. refl;
  plant = h.plant;
  nodes = λ n node e. record { at = refl; stands = (h.nodes n node e).stands };
}

no_more : (a b : ℕ) → a ≡ 0 → a ≤ b
no_more a b e = omega (arith, e)

pub new_valid : {F : Type 0} (pre : F → ℤ → Type 0) (post : F → ℤ → ℤ → Type 0) (cfg : NetCfg) (db : Database) (laws : List (Option (LawOf F))) (world : WorldOf F) →
    IsNewWorld pre post cfg db laws world → IsValid pre post world
new_valid pre post cfg db laws world h = record {
  plant = h.fits;
  node_count = h.count;
  nodes = λ n node e. (h.nodes n node e).valid;
  ticks = λ n node e. no_more node.parts.ticks world.plant.events (h.nodes n node e).stands.is_at.parts.ticks;
  setting = setting_of cfg db laws;
  state = new_world (setting_of cfg db laws);
  stands = new_stands pre post cfg db laws world h;
}
