use Rattle.std.proofs.Common.{arith}
use Rattle.wrp_changes.specs.Giving.{up_of}
use Rattle.wrp_course.specs.WorldAt.{has_carrier}
use Rattle.wrp_changes.proofs.Carriers.{where_not, where_so}
use Rattle.wrp_changes.proofs.Departing.{on_ok}
use Rattle.wrp_changes.proofs.Listing.{adds_as, adds_none}
use Rattle.wrp_changes.proofs.giving.up.comes_if_carried.Goals as goal

pub returns-then-carrier : goal.returns-then-carrier
returns-then-carrier c =
    on_ok c.comes_with.result c.comes_with.ensures
    (λ it off. adds_as c.args.plant.now 2 2 _ _ _ _ (omega arith)
    (λ s w h. where_so (has_carrier s (up_of s w c.args.n off c.args.swaps.now) c.args.place.link) c.has_carrier_with-carrier.result _ _
    (c.has_carrier_with-carrier.ensures s w off c.args.swaps.now h) c.if-carrier.true) (it off))

pub returns-else-carrier : goal.returns-else-carrier
returns-else-carrier c off =
    adds_none c.args.plant.now 2 _ _
    (λ s w h. where_not (has_carrier s (up_of s w c.args.n off c.args.swaps.now) c.args.place.link) c.has_carrier_with-carrier.result _ _
    (c.has_carrier_with-carrier.ensures s w off c.args.swaps.now h) c.if-carrier.false)
