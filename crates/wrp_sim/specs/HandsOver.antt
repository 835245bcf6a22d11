-- How often the frame that arrived last is still handed over when an event comes (this project's
-- profile).
use Rattle.std.specs.Prelude.{◌≡◌, ◌+◌, ℕ, None}
use Rattle.wrp_course.specs.declared.event.Event.{Event}
use Rattle.wrp_course.specs.declared.event.Event.TheVariants.{Arrive, Deliver}
use Rattle.wrp_sim.specs.declared.sim.state.State.{State}

-- it is handed over: once less is left of it, the node that ticked last is no longer noted, and nothing else that the
-- simulator holds changes, except the faults whose turn came in vain
pub record HandedOnce (old new : State) (i : ℕ) : Type 0 where
  pub frame : i ≡ old.arrived.frame
  pub same : new.arrived.frame ≡ i
  pub once : old.arrived.times ≡ new.arrived.times + 1
  pub scene : new.scene ≡ old.scene
  pub draws : new.draws ≡ old.draws
  pub begun : new.begun ≡ old.begun
  pub ticks : new.tick_at ≡ old.tick_at
  pub ticked : new.ticked ≡ None

-- an event hands it over, or another arrives, or none of this changes
abbrev pub HandsOver : (old new : State) → Event → Type 0
HandsOver old new (Deliver i) = HandedOnce old new i
HandsOver old new (Arrive i raw) = new.arrived.frame ≡ i
HandsOver old new _ = new.arrived ≡ old.arrived
