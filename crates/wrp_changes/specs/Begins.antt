-- How an accepted event begins: its inputs are listed, memory is taken, and it makes its own change
-- to a world without its nodes (this project's profile).
use Rattle.std.specs.Prelude.{◌≡◌, ℕ, ℤ, List, Result}
use Rattle.wrp_base.specs.declared.message.PtpMsg.{PtpMsg}
use Rattle.wrp_frame.specs.declared.fault.FrameFault.{FrameFault}
use Rattle.wrp_node.specs.Set.{set_of}
use Rattle.wrp_course.specs.declared.event.Event.{Event}
use Rattle.wrp_course.specs.declared.node_out.NodeOut.{NodeOut}
use Rattle.wrp_plant.specs.declared.plant.Plant.{Plant}
use Rattle.wrp_changes.specs.Changes.{MayMove}
use Rattle.wrp_changes.specs.Gifts.{AreGifts}
use Rattle.wrp_course.specs.Moved.{moved}
use Rattle.wrp_plant.specs.Plant.{PlantIs}
use Rattle.wrp_course.specs.Premises.{Accepts}
use Rattle.wrp_course.specs.Run.{IsSaid}
use Rattle.wrp_course.specs.Setting.{Setting}
use Rattle.wrp_course.specs.WorldAt.{WorldAt}

-- the listed inputs are the ones that the event gives; a frame among them was put out at the time `put`
abbrev pub ListsGifts : Plant → Event → ℤ → List NodeOut → Type 0
ListsGifts plant e put outs =
    (s : Setting) (w : WorldAt) (says : Result PtpMsg FrameFault) →
    ((n : ℕ) → s.set n ≡ set_of s.cfg n) → PlantIs s w plant →
    IsSaid e says → Accepts s w says e → AreGifts s w says e put outs

abbrev pub MovesBy : Event → (old new : Plant) → Type 0
MovesBy e old new = (s : Setting) (w : WorldAt) → MayMove w e → PlantIs s w old → PlantIs s (moved s w e) new

abbrev pub StaysAsWas : (old new : Plant) → Type 0
StaysAsWas old new = (s : Setting) (w : WorldAt) → PlantIs s w old → PlantIs s w new
