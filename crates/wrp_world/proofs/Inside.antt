-- What a valid world contains: its plant stands for the state that the world stands for, its plant fits, and an event
-- of its network is one of the plant's.
use Rattle.std.proofs.Common.{◌≡◌, sym, ap, subst, ℤ, List}
use Rattle.wrp_node.specs.StandsFor.{NodeOf}
use Rattle.wrp_plant.specs.declared.plant.Plant.{Plant}
use Rattle.wrp_plant.specs.Plant.{FitsPlant, PlantIs}
use Rattle.wrp_course.specs.declared.event.Event.{Event}
use Rattle.wrp_course.specs.EventAt.{IsEventOf}
use Rattle.wrp_course.specs.Setting.{Setting}
use Rattle.wrp_world.specs.StandsFor.{WorldOf, StandsFor}
use Rattle.wrp_course.specs.WorldAt.{WorldAt}

abbrev pub world_of : {F : Type 0} → Plant → List (NodeOf F) → WorldOf F
world_of plant nodes = record { plant = plant; nodes = nodes }

pub plant_is : {F : Type 0} (post : F → ℤ → ℤ → Type 0) (s : Setting) (w : WorldAt) (world : WorldOf F) (plant : Plant) (nodes : List (NodeOf F)) →
    world_of plant nodes ≡ world → StandsFor post s w world → PlantIs s w plant
plant_is {F} post s w world plant nodes e h = subst (PlantIs s w) (sym (ap (λ (x : WorldOf F). x.plant) e)) h.plant

pub fits_within : {F : Type 0} (plant : Plant) (nodes : List (NodeOf F)) (world : WorldOf F) → world_of plant nodes ≡ world → FitsPlant world.plant → FitsPlant plant
fits_within {F} plant nodes world e h = subst FitsPlant (sym (ap (λ (x : WorldOf F). x.plant) e)) h

pub event_within : {F : Type 0} (plant : Plant) (nodes : List (NodeOf F)) (world : WorldOf F) (e kind : Event) → world_of plant nodes ≡ world → e ≡ kind →
    IsEventOf world.plant.net.cfg e → IsEventOf plant.net.cfg kind
event_within {F} plant nodes world e kind view same h =
    subst (λ (x : WorldOf F). IsEventOf x.plant.net.cfg kind) (sym view) (subst (IsEventOf world.plant.net.cfg) same h)
