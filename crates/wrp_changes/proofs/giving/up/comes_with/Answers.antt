use Rattle.std.proofs.Common.{◌∙◌, ap, arith}
use Rattle.wrp_course.specs.declared.place.Place.{Place}
use Rattle.wrp_changes.specs.Giving.{up_of}
use Rattle.wrp_changes.proofs.Carriers.{comes_both}
use Rattle.wrp_changes.proofs.Departing.{on_ok}
use Rattle.wrp_changes.proofs.Listing.{adds_as}
use Rattle.wrp_changes.proofs.giving.up.comes_with.Goals as goal

pub returns : goal.returns
returns c =
    on_ok c.comes_from.result c.comes_from.ensures
    (λ it off. adds_as c.args.plant.now 2 2 _ _ _ _ (omega arith)
    (λ s w h. comes_both s (up_of s w c.args.n off c.args.swaps.now) c.args.place.link c.args.place.role _ _ (c.name_after-own.ensures s w off h)
    (c.name_after-other.ensures s w off h ∙ ap (λ (p : Place). ((up_of s w c.args.n off c.args.swaps.now).end_at p.link p.role).name) c.other_end.ensures)) it)
