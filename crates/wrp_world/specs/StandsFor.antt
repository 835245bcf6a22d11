-- The state that a world stands for: each of its parts is what the definition says, and each node stands for its
-- inputs (this project's profile).
use Rattle.std.specs.Prelude.{◌≡◌, ◌≤◌, ℕ, ℤ, Bool, List, length}
use Rattle.wrp_base.specs.declared.link.Mark.{Mark}
use Rattle.wrp_network.specs.Network.{node_count}
use Rattle.wrp_node.specs.Node.{IsValid as NodeIsValid}
use Rattle.wrp_node.specs.NodeRun.{node_after}
use Rattle.wrp_node.specs.Set.{set_of}
use Rattle.wrp_node.specs.StandsFor.{NodeOf, StandsFor as NodeStandsFor}
use Rattle.wrp_plant.specs.declared.plant.Plant.{Plant}
use Rattle.wrp_plant.specs.Plant.{Each, FitsPlant, PlantIs}
use Rattle.wrp_course.specs.Setting.{Setting, node_setting_of, place_of}
use Rattle.wrp_course.specs.Views.{history_of}
use Rattle.wrp_course.specs.WorldAt.{WorldAt}

-- what a world looks like from outside: its nodes, and all the rest
pub record WorldOf (F : Type 0) : Type 0 where
  pub plant : Plant
  pub nodes : List (NodeOf F)

-- a node is what its inputs made of it
pub record NodeIs {F : Type 0} (post : F → ℤ → ℤ → Type 0) (s : Setting) (w : WorldAt) (n : ℕ) (node : NodeOf F) : Type 0 where
  pub at : w.node n ≡ node_after (node_setting_of s n) (w.inputs n)
  pub stands : NodeStandsFor post (node_setting_of s n) node (w.inputs n)

-- the world stands for this state of a world with this setting; each node is set to its part of the network
pub record StandsFor {F : Type 0} (post : F → ℤ → ℤ → Type 0) (s : Setting) (w : WorldAt) (world : WorldOf F) : Type 0 where
  pub set : (n : ℕ) → s.set n ≡ set_of s.cfg n
  pub plant : PlantIs s w world.plant
  pub nodes : Each (NodeIs post s w) world.nodes

-- a world as its calls made it: it stands for some state, and the law of each node keeps its fact
pub record IsValid {F : Type 0} (pre : F → ℤ → Type 0) (post : F → ℤ → ℤ → Type 0) (world : WorldOf F) : Type 0 where
  pub plant : FitsPlant world.plant
  pub node_count : length world.nodes ≡ node_count world.plant.net.cfg
  pub nodes : Each (λ n. NodeIsValid pre post) world.nodes
  -- a node ticks only in events
  pub ticks : Each (λ n (node : NodeOf F). node.parts.ticks ≤ world.plant.events) world.nodes
  pub setting : Setting
  pub state : WorldAt
  pub stands : StandsFor post setting state world

-- what a world reports of itself, for each state that it stands for

abbrev pub Tells : {F A : Type 0} → (F → ℤ → ℤ → Type 0) → (Setting → WorldAt → A) → WorldOf F → A → Type 0
Tells post value world result = (s : Setting) (w : WorldAt) → StandsFor post s w world → result ≡ value s w

abbrev pub time_of : Setting → WorldAt → ℤ
time_of s w = w.time

abbrev pub off_of : ℕ → Setting → WorldAt → ℤ
off_of n s w = (w.clock n).off

abbrev pub up_of : ℕ → Setting → WorldAt → Bool
up_of n s w = (w.clock n).up

abbrev pub joined_of : ℕ → Setting → WorldAt → Bool
joined_of k s w = (w.fibre k).joined

abbrev pub history_at : ℕ → ℕ → Setting → WorldAt → List Mark
history_at n p s w = history_of w (place_of s n p)
