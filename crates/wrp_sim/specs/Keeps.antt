-- The simulator keeps the bounds of the network that it runs: each of its events is accepted (this project's profile).
use Rattle.std.specs.Prelude.{◌≡◌, ℕ, List, [], ◌∷◌, None, Result}
use Rattle.wrp_base.specs.declared.message.PtpMsg.{PtpMsg}
use Rattle.wrp_frame.specs.declared.fault.FrameFault.{FrameFault}
use Rattle.wrp_course.specs.declared.event.Event.{Event}
use Rattle.wrp_course.specs.declared.event.Event.TheVariants.{Deliver, Noise}
use Rattle.wrp_course.specs.EventAt.{IsEventOf}
use Rattle.wrp_course.specs.Premises.{Accepts}
use Rattle.wrp_course.specs.Run.{Happened, world_after}
use Rattle.wrp_course.specs.Runs.{IsNetwork, IsRun}
use Rattle.wrp_course.specs.Setting.{Setting}
use Rattle.wrp_sim.specs.Rules.{rest_of}
use Rattle.wrp_scene.specs.Scenario.{IsSceneOf, SceneAt}
use Rattle.wrp_sim.specs.SimAt.{SimAt, new_sim}
use Rattle.wrp_sim.specs.SimRun.{Gives, GivesEvent, IsSimRun}

-- what becomes of a simulator and its world, one after the other
pub data Turn : Type 0 where
  -- an event of the simulator comes to the world
  Comes : (happened : Happened) → Turn
  -- an event by which it hands over a frame is left out
  LeftOut : (frame : ℕ) → Turn
  -- it gives no event
  Silent : Turn
  -- a frame is handed over, or octets come, and the simulator knows nothing of it
  Between : (happened : Happened) → Turn

-- the events that came to the world, the newest first
abbrev pub events_of : List Turn → List Happened
events_of [] = []
events_of (Comes h ∷ before) = h ∷ events_of before
events_of (LeftOut i ∷ before) = events_of before
events_of (Silent ∷ before) = events_of before
events_of (Between h ∷ before) = h ∷ events_of before

-- events that may come between the events of the simulator
abbrev pub MayBeBetween : Event → Type 0
MayBeBetween (Deliver i) = Unit {0}
MayBeBetween (Noise n p octets raw) = Unit {0}
MayBeBetween _ = ⊥

-- an event that the world accepts
abbrev pub IsAccepted : Setting → List Happened → Happened → Type 0
IsAccepted s before h = IsEventOf s.cfg h.event × Accepts s (world_after s before) h.says h.event

-- a simulator and its world after these turns, the newest first, and what has then been drawn and done
abbrev pub IsDriven : SceneAt → Setting → (seed : ℕ) → List Turn → SimAt → Type 0
IsDriven scene s seed [] at = at ≡ new_sim scene seed
IsDriven scene s seed (Comes h ∷ before) at =
    (old : SimAt) × IsDriven scene s seed before old × GivesEvent scene s (world_after s (events_of before)) old h.event at
IsDriven scene s seed (LeftOut i ∷ before) at =
    (old : SimAt) × IsDriven scene s seed before old × GivesEvent scene s (world_after s (events_of before)) old (Deliver i) at
IsDriven scene s seed (Silent ∷ before) at =
    (old : SimAt) × IsDriven scene s seed before old × Gives scene s (world_after s (events_of before)) old None
    × (at ≡ rest_of s (world_after s (events_of before)) old)
IsDriven scene s seed (Between h ∷ before) at =
    IsDriven scene s seed before at × MayBeBetween h.event × IsAccepted s (events_of before) h

-- whatever comes between, each event of the simulator is one of the network, and the world accepts it
abbrev pub EventsAreAccepted : Type 0
EventsAreAccepted =
    (scene : SceneAt) (s : Setting) (seed : ℕ) (turns : List Turn) (at new : SimAt) (e : Event) (says : Result PtpMsg FrameFault) →
    IsNetwork s → IsSceneOf s.cfg scene → IsDriven scene s seed turns at → GivesEvent scene s (world_after s (events_of turns)) at e new →
    IsEventOf s.cfg e × Accepts s (world_after s (events_of turns)) says e

-- the events of a simulator that runs by itself are a run of the world
abbrev pub SimRunsAreRuns : Type 0
SimRunsAreRuns =
    (scene : SceneAt) (s : Setting) (seed : ℕ) (events : List Happened) (at : SimAt) → IsNetwork s → IsSceneOf s.cfg scene →
    IsSimRun scene s seed events at → IsRun s events
