use Rattle.std.proofs.Common.{◌++◌, ap, arith}
use Rattle.wrp_course.specs.declared.place.Place.{Place}
use Rattle.wrp_course.specs.Given.{goes_at}
use Rattle.wrp_changes.proofs.Listing.{adds_then}
use Rattle.wrp_changes.proofs.giving.ends.goes_from.Goals as goal

pub returns : goal.returns
returns c =
    adds_then c.args.plant.now 1 1 2 _ _ _ _ _ _ (omega arith)
    (λ s w h. ap (λ (p : Place). goes_at s c.args.place.link c.args.place.role ++ goes_at s p.link p.role) c.other_end.ensures)
    c.in_ok-goes_at.ensures c.in_ok-goes_at-2.ensures
