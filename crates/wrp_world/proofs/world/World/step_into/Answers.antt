-- The event keeps all premises and is taken, or it breaks one.
use Rattle.std.proofs.lemmas.Result.{err_from_is_err_and}
use Rattle.wrp_world.proofs.RunsOn.{runs_on}
use Rattle.wrp_world.proofs.TrueRuns.{links_go_on, runs_kept, truth_goes_on}
use Rattle.wrp_world.proofs.WorldSteps.{breach_refused, kept_so, memory_refused, none_left, stepped_so}
use Rattle.wrp_changes.proofs.Refusals.{on_err}
use Rattle.wrp_world.proofs.world.World.step_into.Goals as goal

pub returns-in-Some-clause-refusal : goal.returns-in-Some-clause-refusal
returns-in-Some-clause-refusal g c =
    breach_refused _ c.args.event.now c.args.self.now c.in-Some.breach c.broken.result c.refused.result c.broken.ensures c.in-Some.is c.refused.ensures

pub take_so-requires-clause-accepted : goal.take_so-requires-clause-accepted
take_so-requires-clause-accepted g c =
    kept_so _ _ c.args.event.now c.args.self.now c.broken.result c.broken.ensures (none_left c.broken.result c.in_default.not-Some) c.requires.valid

pub returns-in_err-take_so-clause-refusal : goal.returns-in_err-take_so-clause-refusal
returns-in_err-take_so-clause-refusal g c =
    let p = err_from_is_err_and c.from_residual.result c.from_residual.ensures.1 in
    memory_refused _ c.args.event.now c.args.self.now c.broken.result c.from_residual.result p.0 _ c.broken.ensures (none_left c.broken.result c.in_default.not-Some) p.1 p.2

pub returns-in_err-take_so-clause-stays : goal.returns-in_err-take_so-clause-stays
returns-in_err-take_so-clause-stays g c = on_err c.from_residual.result c.in_err-take_so.ensures.stays

pub returns-in_err-take_so-clause-runs : goal.returns-in_err-take_so-clause-runs
returns-in_err-take_so-clause-runs g c =
    on_err c.from_residual.result (runs_kept _ _ c.args.self.now c.take_so.new.self c.take_so.ensures.laws c.in_err-take_so.ensures.stays)

pub returns-clause-steps : goal.returns-clause-steps
returns-clause-steps g c =
    stepped_so _ c.args.event.now c.args.self.now c.take_so.new.self c.take_so.new.outs.items c.broken.result c.broken.ensures (none_left c.broken.result c.in_default.not-Some)
    c.in_ok-take_so.ensures.steps

pub returns-clause-handshakes : goal.returns-clause-handshakes
returns-clause-handshakes g c =
    runs_on _ c.args.event.now c.args.self.now c.take_so.new.self c.take_so.new.outs.items c.events_hold.ensures.links c.requires.event (returns-clause-steps g c)

pub returns-clause-links : goal.returns-clause-links
returns-clause-links g c =
    links_go_on _ c.args.event.now c.args.self.now c.take_so.new.self c.take_so.new.outs.items c.events_hold.ensures.links c.requires.event (returns-clause-steps g c)

pub returns-clause-truth : goal.returns-clause-truth
returns-clause-truth g c =
    truth_goes_on _ _ c.args.event.now c.args.self.now c.take_so.new.self c.take_so.new.outs.items c.events_hold.ensures.links c.events_hold.ensures.tracks c.requires.event c.event_fits.ensures
    c.take_so.ensures.laws (returns-clause-steps g c)
