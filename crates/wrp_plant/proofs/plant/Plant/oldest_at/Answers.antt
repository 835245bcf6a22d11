use Rattle.std.proofs.Common.{◌∙◌, ap, option_map, slice_get}
use Rattle.wrp_plant.specs.declared.ends.EndState.{EndState}
use Rattle.wrp_plant.proofs.OldestFrames.{oldest_fits, oldest_told}
use Rattle.wrp_plant.proofs.plant.Plant.oldest_at.Goals as goal

pub returns-clause-value : goal.returns-clause-value
returns-clause-value c s w h =
    oldest_told w c.args.place.link c.span-span.result.now c.args.place.role c.first_put_out.result (h.spans c.args.place.link c.span-span.result.now c.span-span.ensures.value)
    (c.first_put_out.ensures ∙ ap (λ xs. option_map (λ out. out.at) (slice_get xs 0)) c.as_slice.ensures.value
    ∙ ap (λ (e : EndState). option_map (λ out. out.at) (slice_get e.waiting.items 0)) c.end.ensures)

pub returns-clause-size : goal.returns-clause-size
returns-clause-size c =
    oldest_fits c.args.self.now.events c.span-span.result.now c.args.place.role c.first_put_out.result c.requires.fits.events c.span-span.ensures.fits
    (c.first_put_out.ensures ∙ ap (λ xs. option_map (λ out. out.at) (slice_get xs 0)) c.as_slice.ensures.value
    ∙ ap (λ (e : EndState). option_map (λ out. out.at) (slice_get e.waiting.items 0)) c.end.ensures)
