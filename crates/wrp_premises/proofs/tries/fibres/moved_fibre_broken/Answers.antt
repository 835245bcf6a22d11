use Rattle.std.proofs.Common.{◌∙◌, ap}
use Rattle.wrp_course.specs.declared.event.Event.TheVariants.{Pass}
use Rattle.wrp_course.specs.Moved.{moved}
use Rattle.wrp_plant.specs.Plant.{moved_fibre}
use Rattle.wrp_premises.proofs.TriedFibres.{moved_has, small_delay}
use Rattle.wrp_premises.proofs.tries.fibres.moved_fibre_broken.Goals as goal

pub moved-fibre-requires-clause-ms : goal.moved-fibre-requires-clause-ms
moved-fibre-requires-clause-ms c = small_delay c.args.plant.now.events c.span-span.result.now.fibre.ms c.requires.fits.events c.span-span.ensures.fits.ms

pub moved-fibre-requires-clause-sm : goal.moved-fibre-requires-clause-sm
moved-fibre-requires-clause-sm c = small_delay c.args.plant.now.events c.span-span.result.now.fibre.sm c.requires.fits.events c.span-span.ensures.fits.sm

pub returns : goal.returns
returns c s w dt drifts h =
    c.delays_broken.ensures s w (moved s w (Pass dt drifts c.args.moves.now)) h
    (moved_has s w c.args.k dt drifts c.args.moves.now c.span-span.result.now c.moved-fibre.result c.delays-master.result c.delays-slave.result
    (h.spans c.args.k c.span-span.result.now c.span-span.ensures.value)
    (c.moved-fibre.ensures.value ∙ ap (λ ms. moved_fibre ms c.args.k c.span-span.result.now.fibre) c.as_slice.ensures.value)
    c.delays-master.ensures c.delays-slave.ensures)
