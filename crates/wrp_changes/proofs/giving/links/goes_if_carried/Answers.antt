use Rattle.std.proofs.Common.{arith}
use Rattle.wrp_course.specs.WorldAt.{has_carrier}
use Rattle.wrp_changes.proofs.Carriers.{where_not, where_so}
use Rattle.wrp_changes.proofs.Departing.{on_ok}
use Rattle.wrp_changes.proofs.Listing.{adds_as, adds_none}
use Rattle.wrp_changes.proofs.giving.links.goes_if_carried.Goals as goal

pub returns-then-carrier : goal.returns-then-carrier
returns-then-carrier c =
    on_ok c.goes_from.result c.goes_from.ensures
    (adds_as c.args.plant.now 2 2 _ _ _ _ (omega arith)
    (λ s w h. where_so (has_carrier s w c.args.place.link) c.has_carrier-carrier.result _ _ (c.has_carrier-carrier.ensures s w h) c.if-carrier.true))

pub returns-else-carrier : goal.returns-else-carrier
returns-else-carrier c =
    adds_none c.args.plant.now 2 _ _
    (λ s w h. where_not (has_carrier s w c.args.place.link) c.has_carrier-carrier.result _ _ (c.has_carrier-carrier.ensures s w h) c.if-carrier.false)
