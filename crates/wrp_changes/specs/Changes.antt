-- What an event by itself changes in a world without its nodes (this project's profile).
use Rattle.std.specs.Prelude.{◌≡◌, ◌+◌, ℕ, true}
use Rattle.wrp_course.specs.declared.event.Event.{Event}
use Rattle.wrp_course.specs.declared.event.Event.TheVariants.{Arrive, Deliver, Noise}
use Rattle.wrp_plant.specs.declared.plant.Plant.{Plant}
use Rattle.wrp_course.specs.Moved.{moved}
use Rattle.wrp_plant.specs.Plant.{FitsPlant, PlantIs}
use Rattle.wrp_changes.specs.PlantTold.{NoneStepped}
use Rattle.wrp_changes.specs.Room.{HasRoom}
use Rattle.wrp_course.specs.Setting.{Setting}
use Rattle.wrp_course.specs.WorldAt.{WorldAt, is_on_fibre}

-- if a node is handed octets, its clock may still be stepped in this event
abbrev pub MayStepAfter : Event → Plant → Type 0
MayStepAfter (Deliver i) plant = NoneStepped plant
MayStepAfter (Noise n p octets raw) plant = NoneStepped plant
MayStepAfter _ plant = Unit {0}

-- a frame arrives only if it is on a fibre
abbrev pub MayMove : WorldAt → Event → Type 0
MayMove w (Arrive j raw) = is_on_fibre (w.frame j) ≡ true
MayMove w _ = Unit {0}

-- if the old plant stands for a state in which the event may come, the new plant stands for what the event makes of
-- it; and the event is counted
pub record Changes (e : Event) (old new : Plant) : Type 0 where
  pub is : (s : Setting) (w : WorldAt) → MayMove w e → PlantIs s w old → PlantIs s (moved s w e) new
  pub fits : FitsPlant new
  pub room : (k : ℕ) → HasRoom k old → HasRoom k new
  pub net : new.net ≡ old.net
  pub events : new.events ≡ old.events + 1
  pub steps : MayStepAfter e new
