-- What the event's octets say is decoded, and the event is taken.
use Rattle.wrp_world.proofs.TakenRuns.{can_so, takes_links_on, takes_runs_on, takes_truth_on}
use Rattle.wrp_world.proofs.TrueRuns.{runs_kept}
use Rattle.wrp_changes.proofs.Refusals.{on_err}
use Rattle.wrp_world.proofs.world.World.take.Goals as goal

pub take_so-requires-clause-accepted : goal.take_so-requires-clause-accepted
take_so-requires-clause-accepted g c = can_so _ c.args.self.now c.args.event.now c.said-says.result c.said-says.ensures c.requires.accepted

pub returns-in_err-take_so-clause-stays : goal.returns-in_err-take_so-clause-stays
returns-in_err-take_so-clause-stays g c = on_err c.from_residual.result c.in_err-take_so.ensures.stays

pub returns-in_err-take_so-clause-runs : goal.returns-in_err-take_so-clause-runs
returns-in_err-take_so-clause-runs g c =
    on_err c.from_residual.result (runs_kept _ _ c.args.self.now c.take_so.new.self c.take_so.ensures.laws c.in_err-take_so.ensures.stays)

pub returns-clause-steps : goal.returns-clause-steps
returns-clause-steps g c =
    let taken = c.in_ok-take_so.ensures.steps in
    (c.said-says.result, taken.0, taken.1 c.said-says.result c.said-says.ensures)

pub returns-clause-handshakes : goal.returns-clause-handshakes
returns-clause-handshakes g c =
    takes_runs_on _ c.args.event.now c.args.self.now c.take_so.new.self c.take_so.new.outs.items c.events_hold.ensures.links c.requires.event (returns-clause-steps g c)

pub returns-clause-links : goal.returns-clause-links
returns-clause-links g c =
    takes_links_on _ c.args.event.now c.args.self.now c.take_so.new.self c.take_so.new.outs.items c.events_hold.ensures.links c.requires.event (returns-clause-steps g c)

pub returns-clause-truth : goal.returns-clause-truth
returns-clause-truth g c =
    takes_truth_on _ _ c.args.event.now c.args.self.now c.take_so.new.self c.take_so.new.outs.items c.events_hold.ensures.links c.events_hold.ensures.tracks c.requires.event c.event_fits.ensures
    c.take_so.ensures.laws (returns-clause-steps g c)
