-- What becomes of a world as its nodes take the inputs of an event, one after another (this
-- project's profile).
use Rattle.std.specs.Prelude.{◌≡◌, ◌≤◌, ◌<◌, ◌+◌, ◌%◌, ◌==◌, ℕ, ℤ, Bool, true, false, List, [], ◌∷◌, map, Option}
use Rattle.std.specs.List.{AllByRecursion, AllZip}
use Rattle.wrp_network.specs.declared.configuration.NetCfg.{NetCfg}
use Rattle.wrp_network.specs.Network.{node_count}
use Rattle.wrp_law.specs.Law.{LawOf}
use Rattle.wrp_node.specs.Control.{law_in}
use Rattle.wrp_node.specs.declared.interface.Input.{Input}
use Rattle.wrp_node.specs.declared.interface.Input.TheVariants.{Tick, Frame}
use Rattle.wrp_node.specs.Node.{Tells as NodeTells, is_tick}
use Rattle.wrp_node.specs.Parts.{is_among}
use Rattle.wrp_node.specs.StandsFor.{NodeOf}
use Rattle.wrp_node.specs.States.{state_at, state_in}
use Rattle.wrp_node.specs.StepLaws.{is_frame}
use Rattle.wrp_course.specs.declared.node_out.NodeOut.{NodeOut}
use Rattle.wrp_changes.specs.declared.telling.News.{News}
use Rattle.wrp_changes.specs.Gifts.{GiftIs, IsRead}
use Rattle.wrp_course.specs.Given.{Given, gives, gives_all, mover_of, node_step_of, steps_of}
use Rattle.wrp_plant.specs.Plant.{Each}
use Rattle.wrp_changes.specs.PlantTold.{NoneStepped}
use Rattle.wrp_course.specs.Setting.{Setting}
use Rattle.wrp_world.specs.StandsFor.{StandsFor, WorldOf}
use Rattle.wrp_world.specs.Step.{step_seen}
use Rattle.wrp_course.specs.WorldAt.{WorldAt}

-- What inputs require of a world

-- each node has ticked less often than events have come
abbrev pub HasTicks : {F : Type 0} → WorldOf F → Type 0
HasTicks {F} world =
    Each (λ n (node : NodeOf F). node.parts.ticks + 1 ≤ world.plant.events) world.nodes

-- a tick can still be counted, and the clock of a node that takes a frame may be stepped
abbrev pub Asks : {F : Type 0} → WorldOf F → Input → Type 0
Asks world Tick = HasTicks world
Asks world (Frame p octets raw sample) = NoneStepped world.plant
Asks world _ = Unit {0}

-- an input that requires nothing: neither a tick nor a frame
abbrev pub is_plain : Input → Bool
is_plain Tick = false
is_plain (Frame p octets raw sample) = false
is_plain _ = true

-- of the inputs of an event, only the first requires something
abbrev pub FirstAsks : {F : Type 0} → WorldOf F → List NodeOut → Type 0
FirstAsks world [] = Unit {0}
FirstAsks world (out ∷ outs) =
    Asks world out.input × AllByRecursion (λ (o : NodeOut). is_plain o.input ≡ true) outs

-- What is reported of a node's step

-- the octets have the messageType of a Signaling
abbrev pub is_signaling : List ℕ → Bool
is_signaling [] = false
is_signaling (first ∷ rest) = first % 16 == 0xC

-- what is reported of a step to the rest of the world: the node, whether it ticked, the message
-- that it was given, and the states of its ports' links before and after
pub record IsNewsOf {F : Type 0} (post : F → ℤ → ℤ → Type 0) (put : ℤ) (old new : NodeOf F) (out : NodeOut) (news : News) : Type 0 where
  pub node : news.node ≡ out.node
  pub ticked : news.ticked ≡ is_tick out.input
  pub by : (g : Given) → IsRead put g.says g.at out.input → news.by ≡ mover_of g out.input
  pub before :
      (p : ℕ) → is_among p old.parts.ports ≡ true →
      NodeTells post (state_at p) old (state_in p news.before.now.items)
  pub after :
      (p : ℕ) → is_among p new.parts.ports ≡ true →
      NodeTells post (state_at p) new (state_in p news.after.now.items)

-- What a world becomes

-- a node took an input; answer is the law's answer, if it is needed: the outputs are those of the
-- node's step, and the world stands for what the step makes of each state that it stood for
pub record Gives {F : Type 0} (post : F → ℤ → ℤ → Type 0) (put answer : ℤ) (old new : WorldOf F) (before after : NodeOut) : Type 0 where
  pub stands :
      (s : Setting) (v : WorldAt) (g : Given) → StandsFor post s v old → GiftIs put g before →
      StandsFor post s (gives s answer v g) new
  pub seen :
      (s : Setting) (v : WorldAt) (g : Given) → StandsFor post s v old → GiftIs put g before →
      step_seen after ≡ node_step_of s answer v g

-- an input was taken, with an answer of the law: only a frame needs one
abbrev pub Gave :
    {F : Type 0} → (F → ℤ → ℤ → Type 0) → ℤ → (old new : WorldOf F) →
    (before after : NodeOut) → Type 0
Gave post put old new before after =
    (answer : ℤ)
    × ((y : ℤ) → (is_frame before.input ≡ true → y ≡ answer) → Gives post put y old new before after)

-- all inputs were taken, with one answer of the law
pub record GivesAll {F : Type 0} (post : F → ℤ → ℤ → Type 0) (put answer : ℤ) (old new : WorldOf F) (before after : List NodeOut) : Type 0 where
  pub stands :
      (s : Setting) (v : WorldAt) (gs : List Given) → StandsFor post s v old →
      AllZip (GiftIs put) gs before → StandsFor post s (gives_all s answer v gs) new
  pub seen :
      (s : Setting) (v : WorldAt) (gs : List Given) → StandsFor post s v old →
      AllZip (GiftIs put) gs before → map step_seen after ≡ steps_of s answer v gs

abbrev pub GaveAll :
    {F : Type 0} → (F → ℤ → ℤ → Type 0) → ℤ → (old new : WorldOf F) →
    (before after : List NodeOut) → Type 0
GaveAll post put old new before after = (answer : ℤ) × GivesAll post put answer old new before after

-- each step belongs to a node of the network
abbrev pub AreOfNodes : NetCfg → List NodeOut → Type 0
AreOfNodes cfg outs = AllByRecursion (λ (out : NodeOut). out.node < node_count cfg) outs

-- the laws of the nodes
abbrev pub laws_of : {F : Type 0} → WorldOf F → List (Option (LawOf F))
laws_of {F} world = map (λ (node : NodeOf F). law_in node.control) world.nodes
