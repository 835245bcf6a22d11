use Rattle.std.proofs.Common.{◌∙◌, sym, ap, option_map}
use Rattle.wrp_plant.proofs.Sizing.{due_size}
use Rattle.wrp_premises.proofs.TriedFrames.{arrival_told, no_arrival_told}
use Rattle.wrp_premises.proofs.tries.frames.arrive_broken.Goals as goal

pub flight_broken-requires-clause-due : goal.flight_broken-requires-clause-due
flight_broken-requires-clause-due c = due_size c.args.plant.now.events c.in-Some.frame.now.due c.requires.fits.events c.in-Some.ensures.fits.due

pub returns-in-Some : goal.returns-in-Some
returns-in-Some c s w says h =
    arrival_told s w c.args.number c.args.raw.now c.args.plant.now.frames c.in-Some.frame.now c.flight_broken.result h.frames
    (sym c.frame.ensures.value ∙ ap (option_map (λ f. f.now)) c.in-Some.is) (c.flight_broken.ensures s w h)

pub returns-in-None : goal.returns-in-None
returns-in-None c s w says h =
    no_arrival_told s w c.args.number c.args.raw.now c.args.plant.now.frames c.not_sent_broken.result h.frames
    (sym c.frame.ensures.value ∙ ap (option_map (λ f. f.now)) c.in-None.is) (c.not_sent_broken.ensures s w h)
