-- What a simulator holds, and what it stands for: the numbers drawn and the events done (this project's
-- profile).
use Rattle.std.specs.Prelude.{◌≡◌, ◌<◌, ◌≤◌, ◌+◌, ℕ, ℤ, Bool, true, false, List, length, Option, None, Some, IfSome}
use Rattle.std.specs.List.{AllByRecursion}
use Rattle.wrp_network.specs.declared.configuration.NetCfg.{NetCfg}
use Rattle.wrp_network.specs.Network.{node_count}
use Rattle.wrp_course.specs.declared.event.Event.{Event}
use Rattle.wrp_course.specs.declared.event.Event.TheVariants.{Pass}
use Rattle.wrp_plant.specs.Plant.{Each}
use Rattle.wrp_course.specs.Setting.{Setting}
use Rattle.wrp_world.specs.StandsFor.{StandsFor, WorldOf}
use Rattle.wrp_course.specs.WorldAt.{WorldAt, is_on_fibre}
use Rattle.wrp_sim.specs.declared.sim.state.State.{State}
use Rattle.wrp_sim.specs.Rules.{Next, rest_of}
use Rattle.wrp_scene.specs.Scenario.{IsFault, IsSceneOf, SceneAt}
use Rattle.wrp_sim.specs.SimAt.{SimAt}
use Rattle.wrp_sim.specs.SimRun.{Gives}

-- the simulator stands for this
pub record SimIs (at : SimAt) (sim : State) : Type 0 where
  pub state : sim.draws ≡ at.state
  pub begun : sim.begun ≡ at.begun
  pub faults : sim.faults.items ≡ at.faults
  pub ticks : Each (λ n t. t ≡ at.tick_at n) sim.tick_at
  pub ticked : sim.ticked ≡ at.ticked
  pub arrived : sim.arrived ≡ at.arrived

-- a simulator of a network: its scenario belongs to the network, and so do the faults that are left and the node
-- that ticked; the frame that arrived last is still handed over at most twice
pub record FitsSim (cfg : NetCfg) (sim : State) : Type 0 where
  pub scene : IsSceneOf cfg sim.scene
  pub faults : AllByRecursion (IsFault cfg) sim.faults.items
  pub ticks : length sim.tick_at ≡ node_count cfg
  pub ticked : IfSome sim.ticked (λ n. n < node_count cfg)
  pub begun : sim.begun ≤ length cfg.links.items + node_count cfg
  pub arrived : sim.arrived.times ≤ 2

-- the event that was put into its place, if there was one
abbrev pub put : Bool → Event → Option Event
put true event = Some event
put false event = None

-- an event in which this much true time passes
abbrev pub IsPassOf : ℤ → Event → Type 0
IsPassOf dt (Pass passing drifts fibres) = passing ≡ dt
IsPassOf dt _ = ⊥

-- an event in which this time passes and clocks move by this
abbrev pub HasDrifts : ℤ → List ℤ → Event → Type 0
HasDrifts dt moves (Pass passing drifts fibres) = (passing ≡ dt) × (drifts.items ≡ moves)
HasDrifts dt moves _ = ⊥

-- a rule gave this: an event, or none if the rule does not apply; and the simulator stands for what has then been
-- drawn and done
abbrev pub Gave : SimAt → Option Next → Option Event → State → Type 0
Gave stays None None sim = SimIs stays sim
Gave stays (Some next) (Some event) sim = (event ≡ next.event) × SimIs next.at sim
Gave stays _ _ sim = ⊥

-- what a rule gave, for each state that the world and the simulator stood for
abbrev pub Follows : {F : Type 0} → (F → ℤ → ℤ → Type 0) → (rule : SceneAt → Setting → WorldAt → SimAt → Option Next) → (stays : Setting → WorldAt → SimAt → SimAt) → WorldOf F → (old new : State) → Option Event → Type 0
Follows post rule stays world old new event =
    (s : Setting) (w : WorldAt) (at : SimAt) → StandsFor post s w world → SimIs at old →
    Gave (stays s w at) (rule old.scene s w at) event new

-- a rule that leaves everything as it is if the rule does not apply
abbrev pub as_is : Setting → WorldAt → SimAt → SimAt
as_is s w at = at

-- a frame is on a fibre, in each state that the world stands for
abbrev pub IsOnFibre : {F : Type 0} → (F → ℤ → ℤ → Type 0) → WorldOf F → ℕ → Type 0
IsOnFibre post world i = (s : Setting) (w : WorldAt) → StandsFor post s w world → is_on_fibre (w.frame i) ≡ true

-- the frame that is due first is on a fibre, if there is such a frame
abbrev pub IsDue : {F : Type 0} → (F → ℤ → ℤ → Type 0) → WorldOf F → Option (ℕ × ℤ) → Type 0
IsDue post world due = IfSome due (λ next. IsOnFibre post world next.0)

-- what a step of a simulator leaves unchanged: its scenario, and that the simulator is one of the network
pub record StaysFit (cfg : NetCfg) (old new : State) : Type 0 where
  pub scene : new.scene ≡ old.scene
  pub fits : FitsSim cfg new

-- the event that the rules give, or none, and what the simulator then stands for: faults that do not apply are dropped
pub record GaveNext (s : Setting) (w : WorldAt) (at : SimAt) (old new : State) (event : Option Event) : Type 0 where
  pub next : Option Next
  pub gives : Gives old.scene s w at next
  pub gave : Gave (rest_of s w at) next event new

abbrev pub FollowsRules : {F : Type 0} → (F → ℤ → ℤ → Type 0) → WorldOf F → (old new : State) → Option Event → Type 0
FollowsRules post world old new event =
    (s : Setting) (w : WorldAt) (at : SimAt) → StandsFor post s w world → SimIs at old → GaveNext s w at old new event
