use Rattle.std.proofs.Common.{◌≡◌, ◌∙◌, ap}
use Rattle.wrp_changes.specs.Flights.{departed_of}
use Rattle.wrp_plant.specs.Plant.{end_in}
use Rattle.wrp_changes.proofs.Departing.{due_size, leaving_fits, leaving_is, leaving_on}
use Rattle.wrp_plant.proofs.SignedReads.{read}
use Rattle.wrp_changes.proofs.moves.departures.leaving.Goals as goal

-- the frame is the oldest that waits at this end
frame : (c : goal.After-departed) → c.departed.result ≡ departed_of c.args.place c.due_from-due.result (end_in c.span.result.now c.args.place.role).waiting.items
frame c =
    c.departed.ensures
    ∙ ap (λ t. departed_of c.args.place t c.end.result.now.waiting.items) (read c.due_from-due.result (due_size c.args.plant.now.events c.due_from-due.result c.requires.fits.events c.due_from-due.ensures.size))
    ∙ ap (λ e. departed_of c.args.place c.due_from-due.result e.waiting.items) c.end.ensures

pub returns-clause-is : goal.returns-clause-is
returns-clause-is c s w stamp h =
    leaving_is w c.args.place stamp c.due_from-due.result c.span.result.now c.departed.result (h.spans c.args.place.link c.span.result.now c.span.ensures.value) (c.due_from-due.ensures.value s w h) (frame c)

pub returns-clause-fits : goal.returns-clause-fits
returns-clause-fits c =
    leaving_fits _ c.args.plant.now.events c.args.place c.due_from-due.result c.span.result.now c.departed.result c.requires.link c.due_from-due.ensures.size c.span.ensures.fits (frame c)

pub returns-clause-on : goal.returns-clause-on
returns-clause-on c = leaving_on c.args.place c.due_from-due.result (end_in c.span.result.now c.args.place.role).waiting.items c.departed.result (frame c)
