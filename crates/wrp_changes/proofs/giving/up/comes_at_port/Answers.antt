use Rattle.std.proofs.Common.{◌∙◌, sym, arith}
use Rattle.wrp_course.specs.Given.{comes_from}
use Rattle.wrp_changes.specs.Giving.{up_of}
use Rattle.wrp_changes.proofs.Carriers.{at_no_place, at_place}
use Rattle.wrp_changes.proofs.Departing.{on_ok}
use Rattle.wrp_changes.proofs.Listing.{adds_as, adds_none}
use Rattle.wrp_changes.proofs.giving.up.comes_at_port.Goals as goal

pub returns-in-Some : goal.returns-in-Some
returns-in-Some c =
    on_ok c.comes_if_carried.result c.comes_if_carried.ensures
    (λ it off. adds_as c.args.plant.now 2 2 _ _ _ _ (omega arith)
    (λ s w h. at_place s w (up_of s w c.args.n off c.args.swaps.now) c.args.plant.now c.args.n c.args.port c.in-Some.place (comes_from s (up_of s w c.args.n off c.args.swaps.now)) h
    (sym c.place_of.ensures.value ∙ c.in-Some.is)) (it off))

pub returns-in-None : goal.returns-in-None
returns-in-None c off =
    adds_none c.args.plant.now 2 _ _
    (λ s w h. at_no_place s w (up_of s w c.args.n off c.args.swaps.now) c.args.plant.now c.args.n c.args.port (comes_from s (up_of s w c.args.n off c.args.swaps.now)) h
    (sym c.place_of.ensures.value ∙ c.in-None.is))
