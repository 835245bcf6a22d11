use Rattle.std.proofs.Common.{◌∙◌, sym, arith}
use Rattle.wrp_course.specs.Given.{goes_from}
use Rattle.wrp_changes.proofs.Carriers.{at_no_place, at_place}
use Rattle.wrp_changes.proofs.Departing.{on_ok}
use Rattle.wrp_changes.proofs.Listing.{adds_as, adds_none}
use Rattle.wrp_changes.proofs.giving.down.goes_at_port.Goals as goal

pub returns-in-Some : goal.returns-in-Some
returns-in-Some c =
    on_ok c.goes_if_carried.result c.goes_if_carried.ensures
    (adds_as c.args.plant.now 2 2 _ _ _ _ (omega arith)
    (λ s w h. at_place s w w c.args.plant.now c.args.n c.args.port c.in-Some.place (goes_from s) h (sym c.place_of.ensures.value ∙ c.in-Some.is)))

pub returns-in-None : goal.returns-in-None
returns-in-None c =
    adds_none c.args.plant.now 2 _ _
    (λ s w h. at_no_place s w w c.args.plant.now c.args.n c.args.port (goes_from s) h (sym c.place_of.ensures.value ∙ c.in-None.is))
