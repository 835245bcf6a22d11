-- What a simulator answers, whatever became of it and its world: an event that the world accepts (this project's
-- profile).
use Rattle.std.specs.Prelude.{◌≡◌, ℕ, ℤ, List, ◌∷◌, Option, None, Some, Result}
use Rattle.wrp_base.specs.declared.message.PtpMsg.{PtpMsg}
use Rattle.wrp_frame.specs.declared.fault.FrameFault.{FrameFault}
use Rattle.wrp_course.specs.declared.event.Event.{Event}
use Rattle.wrp_course.specs.declared.event.Event.TheVariants.{Deliver}
use Rattle.wrp_course.specs.EventAt.{IsEventOf}
use Rattle.wrp_course.specs.Premises.{Accepts}
use Rattle.wrp_course.specs.Run.{world_after}
use Rattle.wrp_course.specs.Runs.{IsNetwork}
use Rattle.wrp_course.specs.Setting.{Setting}
use Rattle.wrp_world.specs.StandsFor.{StandsFor, WorldOf}
use Rattle.wrp_sim.specs.declared.sim.state.State.{State}
use Rattle.wrp_sim.specs.Keeps.{Comes, IsDriven, LeftOut, Silent, Turn, events_of}
use Rattle.wrp_sim.specs.Sim.{SimIs}
use Rattle.wrp_sim.specs.SimAt.{SimAt}

-- after these turns the world and the simulator stand for what they made of them
pub record StandsDriven {F : Type 0} (post : F → ℤ → ℤ → Type 0) (s : Setting) (seed : ℕ) (turns : List Turn) (at : SimAt) (world : WorldOf F) (sim : State) : Type 0 where
  pub network : IsNetwork s
  pub stands : StandsFor post s (world_after s (events_of turns)) world
  pub is : SimIs at sim
  pub driven : IsDriven sim.scene s seed turns at

-- the simulator stands for what one more turn makes of it
pub record TurnsTo (s : Setting) (seed : ℕ) (turns : List Turn) (at : SimAt) (sim : State) : Type 0 where
  pub is : SimIs at sim
  pub driven : IsDriven sim.scene s seed turns at

-- an event that the world accepts, whatever is noted with it; and it is the next turn, or is left out
pub record GivesAccepted (s : Setting) (seed : ℕ) (turns : List Turn) (new : State) (e : Event) : Type 0 where
  pub event : IsEventOf s.cfg e
  pub accepted : (says : Result PtpMsg FrameFault) → Accepts s (world_after s (events_of turns)) says e
  pub at : SimAt
  pub comes :
      (says : Result PtpMsg FrameFault) (answer : ℤ) →
      TurnsTo s seed (Comes (record { event = e; says = says; answer = answer }) ∷ turns) at new
  pub left_out : (i : ℕ) → e ≡ Deliver i → TurnsTo s seed (LeftOut i ∷ turns) at new

abbrev pub GivesTurn : Setting → (seed : ℕ) → List Turn → State → Option Event → Type 0
GivesTurn s seed turns new None = (at : SimAt) × TurnsTo s seed (Silent ∷ turns) at new
GivesTurn s seed turns new (Some e) = GivesAccepted s seed turns new e

-- the same for any turns that the world and the simulator stood for
abbrev pub TakesTurns : {F : Type 0} → (F → ℤ → ℤ → Type 0) → WorldOf F → (old new : State) → Option Event → Type 0
TakesTurns post world old new event =
    (s : Setting) (seed : ℕ) (turns : List Turn) (at : SimAt) → StandsDriven post s seed turns at world old → GivesTurn s seed turns new event
