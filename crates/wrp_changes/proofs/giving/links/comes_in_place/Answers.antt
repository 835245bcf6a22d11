use Rattle.std.proofs.Common.{◌∙◌, ap, arith}
use Rattle.wrp_course.specs.declared.place.Place.{Place}
use Rattle.wrp_changes.proofs.Carriers.{comes_both}
use Rattle.wrp_changes.proofs.Departing.{on_ok}
use Rattle.wrp_changes.proofs.Listing.{adds_as}
use Rattle.wrp_changes.proofs.giving.links.comes_in_place.Goals as goal

pub returns : goal.returns
returns c =
    on_ok c.comes_from.result c.comes_from.ensures
    (adds_as c.args.plant.now 2 2 _ _ _ _ (omega arith)
    (λ s w h. comes_both s w c.args.place.link c.args.place.role _ _ (c.end.ensures s w h).name
    ((c.end-2.ensures s w h).name ∙ ap (λ (p : Place). (w.end_at p.link p.role).name) c.other_end.ensures)))
