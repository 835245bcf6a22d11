use Rattle.std.proofs.Common.{ap, arith}
use Rattle.wrp_course.specs.declared.place.Place.{Place}
use Rattle.wrp_course.specs.Given.{comes_from}
use Rattle.wrp_course.specs.Setting.{link_of}
use Rattle.wrp_course.specs.WorldAt.{ends_are_up}
use Rattle.wrp_changes.proofs.Carriers.{where_not, where_so}
use Rattle.std.proofs.Common.{◌∙◌}
use Rattle.wrp_changes.proofs.Departing.{on_ok}
use Rattle.wrp_changes.proofs.Listing.{adds_as, adds_none}
use Rattle.wrp_changes.proofs.giving.links.comes_if_up.Goals as goal

pub returns-then-up : goal.returns-then-up
returns-then-up c =
    on_ok c.comes_in_place.result c.comes_in_place.ensures
    (adds_as c.args.plant.now 2 2 _ _ _ _ (omega arith)
    (λ s w h. ap (λ (p : Place). comes_from s w p.link p.role) c.upper_end.ensures
    ∙ where_so (ends_are_up w.clock (link_of s c.args.link)) c.ends_are_up-up.result _ _ (c.ends_are_up-up.ensures s w h) c.if-up.true))

pub returns-else-up : goal.returns-else-up
returns-else-up c =
    adds_none c.args.plant.now 2 _ _
    (λ s w h. where_not (ends_are_up w.clock (link_of s c.args.link)) c.ends_are_up-up.result _ _ (c.ends_are_up-up.ensures s w h) c.if-up.false)
