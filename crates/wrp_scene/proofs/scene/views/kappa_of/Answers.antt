-- The asymmetry of each fibre is in its range.
use Rattle.std.proofs.Common.{◌∙◌, refl, sym, ap, ap₂, pos, length, ◌^◌, arith}
use Rattle.std.specs.Prelude.{slice_get}
use Rattle.std.specs.Option.{option_map_or}
use Rattle.std.proofs.lemmas.Option.{slice_get_read}
use Rattle.wrp_network.specs.Network.{IsLink}
use Rattle.wrp_bounds.proofs.Counts.{read_of_size}
use Rattle.wrp_scene.proofs.scene.views.kappa_of.Goals as goal

pub returns-in-Some-clause-value : goal.returns-in-Some-clause-value
returns-in-Some-clause-value c =
    let link = c.in-Some.link.now in
    let links = c.deref.result.now in
    let at : IsLink c.args.cfg.now c.args.link link =
    ap₂ slice_get (sym c.deref.ensures.0) (sym c.from.ensures)
    ∙ slice_get_read links (length links) c.from.result link refl c.in-Some.ensures.lookup.3.0 c.in-Some.ensures.lookup.1 in
    read_of_size (2 ^ 38) link.kappa (c.requires.ranges.links c.args.link link at).kappa (omega arith)
    ∙ sym (ap (λ l. option_map_or (λ k. k.kappa) l (pos 0)) at)

pub returns-in-Some-clause-range : goal.returns-in-Some-clause-range
returns-in-Some-clause-range c =
    let link = c.in-Some.link.now in
    let links = c.deref.result.now in
    let at : IsLink c.args.cfg.now c.args.link link =
    ap₂ slice_get (sym c.deref.ensures.0) (sym c.from.ensures)
    ∙ slice_get_read links (length links) c.from.result link refl c.in-Some.ensures.lookup.3.0 c.in-Some.ensures.lookup.1 in
    let small = (c.requires.ranges.links c.args.link link at).kappa in
    rw (read_of_size (2 ^ 38) link.kappa small (omega arith)) small
