use Rattle.std.proofs.Common.{◌++◌, ap, arith}
use Rattle.wrp_course.specs.declared.place.Place.{Place}
use Rattle.wrp_changes.specs.Giving.{comes_over}
use Rattle.wrp_changes.proofs.Listing.{adds_then}
use Rattle.wrp_changes.proofs.giving.ends.comes_from.Goals as goal

pub returns : goal.returns
returns c =
    adds_then c.args.plant.now 1 1 2 _ _ _ _ _ _ (omega arith)
    (λ s w h. ap (λ (p : Place). comes_over s c.args.place.link c.args.place.role c.args.own.now.bytes ++ comes_over s p.link p.role c.args.other.now.bytes) c.other_end.ensures)
    c.in_ok-comes_at.ensures c.in_ok-comes_at-2.ensures
