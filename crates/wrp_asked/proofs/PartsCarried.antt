-- The events of an audit, and the events that a simulation makes, carry the parts of the aim.
use Rattle.std.proofs.Common.{true}
use Rattle.wrp_network_text.specs.SameAnswer.{ReadingIsAccepted}
use Rattle.wrp_sim.specs.Keeps.{SimRunsAreRuns}
use Rattle.wrp_trace.specs.Events.{EventsCanCome}
use Rattle.wrp_world.specs.EventHolds.{LinksHoldInRuns, TracksHoldInRuns}
use Rattle.wrp_asked.specs.Headline.{EventsCarryParts}
use Rattle.wrp_asked.specs.SimHeadline.{MadeEventsCarryParts}
use Rattle.wrp_simulate.specs.SimText.{is_printed}
use Rattle.wrp_asked.proofs.HeadlineParts.{parts_of}
use Rattle.wrp_asked.proofs.HopsHold.{HopLaws, hops_hold}
use Rattle.wrp_asked.proofs.TracksHold.{RunsNear, audit_runs, simulation_runs, tracks_hold}

-- of an audit each output has a line
pub events_carry_parts : EventsCanCome → ReadingIsAccepted → LinksHoldInRuns → TracksHoldInRuns → HopLaws → EventsCarryParts
events_carry_parts can accepted links tracks hops asked input s events came =
    let runs : RunsNear s events = audit_runs can accepted asked input s events came in
    parts_of (λ o. true) links s events runs.run (tracks_hold tracks (λ o. true) s events runs) (hops_hold hops s events runs)

-- of a simulation the outputs of some kinds have a line
pub made_events_carry_parts : SimRunsAreRuns → ReadingIsAccepted → LinksHoldInRuns → TracksHoldInRuns → HopLaws → MadeEventsCarryParts
made_events_carry_parts runs accepted links tracks hops asked input s events made =
    let near : RunsNear s events = simulation_runs runs accepted asked input s events made in
    record {
      run = near.run;
      fit = near.fit;
      parts = parts_of is_printed links s events near.run (tracks_hold tracks is_printed s events near) (hops_hold hops s events near);
    }
