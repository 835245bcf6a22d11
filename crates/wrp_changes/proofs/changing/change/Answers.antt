use Rattle.std.proofs.Common.{◌≡◌, ℕ, sym, subst, OnOk, OnErr, Result, Ok, Err}
use Rattle.wrp_course.specs.declared.event.Event.{Event}
use Rattle.wrp_plant.specs.declared.plant.Plant.{Plant}
use Rattle.wrp_changes.specs.Changes.{Changes}
use Rattle.wrp_changes.specs.Room.{HasRoom}
use Rattle.wrp_changes.proofs.changing.change.Goals as goal

-- with and without an error
room : {A E : Type 0} (r : Result A E) (e : Event) (old new : Plant) → OnOk r (Changes e old new) → OnErr r (new ≡ old) → (k : ℕ) → HasRoom k old → HasRoom k new
room (Ok x) e old new ok err k h = ok.room k h
room (Err x) e old new ok err k h = subst (HasRoom k) (sym err) h

pub returns-clause-room : goal.returns-clause-room
returns-clause-room c k h = room c.change_by.result c.args.event.now c.args.plant.now c.change_by.new.plant c.change_by.ensures.ok c.change_by.ensures.err k h
