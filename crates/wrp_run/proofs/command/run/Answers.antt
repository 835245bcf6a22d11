-- A run answers what is expected.
use Rattle.wrp_asked.proofs.AloneTold.{aimed}
use Rattle.wrp_asked.proofs.EmitTold.{emission_told}
use Rattle.wrp_asked.proofs.HeadlineTold.{headline_told}
use Rattle.wrp_asked.proofs.LoopTold.{looped_told}
use Rattle.wrp_asked.proofs.OneAnswer.{told_one, ends_answered}
use Rattle.wrp_asked.proofs.SimTold.{simulation_told}
use Rattle.wrp_words.specs.Words.{texts_of}
use Rattle.wrp_run.proofs.Ending.{may_end}
use Rattle.wrp_run.proofs.Reporting.{offsets_reported, usage_is_plain}
use Rattle.wrp_run.proofs.Shown.{audit_told, loop_told}
use Rattle.wrp_run.proofs.Synced.{steps_synced}
use Rattle.wrp_run.proofs.command.run.Goals as goal

pub returns-clause-may : goal.returns-clause-may
returns-clause-may g c = may_end _ c.run_command.result c.run_command.ensures.ends

pub returns-clause-due : goal.returns-clause-due
returns-clause-due g c = λ status octets calls is told.
    told_one
    (record { run = c.one_run.ensures.run; node = c.one_run.ensures.node; audit = c.one_audit.ensures; last = c.told_last.ensures }) _ c.run_command.result status octets calls c.run_command.ensures.ends is told

pub returns-clause-complete : goal.returns-clause-complete
returns-clause-complete g c = λ status octets calls memory reads writes links told.
    told_one
    (record { run = c.one_run.ensures.run; node = c.one_run.ensures.node; audit = c.one_audit.ensures; last = c.told_last.ensures }) _ c.run_command.result status octets calls c.run_command.ensures.ends
    (ends_answered _ c.run_command.result c.run_command.ensures.ends memory reads writes links) told

pub returns-clause-headline : goal.returns-clause-headline
returns-clause-headline g c = λ audits. headline_told c.events_carry_parts.ensures c.one_audit.ensures _ c.run_command.result c.run_command.ensures.ends audits

pub returns-clause-emitted : goal.returns-clause-emitted
returns-clause-emitted g c = λ name emits. emission_told c.events_carry_parts.ensures c.emissions_tell_no_track.ensures _ c.run_command.result name c.run_command.ensures.ends (usage_is_plain c.args.words.now) emits

pub returns-clause-replayed : goal.returns-clause-replayed
returns-clause-replayed g c = λ name replays. c.replays_are_told.ensures _ c.run_command.result name c.run_command.ensures.ends replays

pub returns-clause-simulated : goal.returns-clause-simulated
returns-clause-simulated g c =
    λ seed simulates. simulation_told c.made_events_carry_parts.ensures _ c.run_command.result seed c.run_command.ensures.ends simulates

pub returns-clause-looped : goal.returns-clause-looped
returns-clause-looped g c =
    λ seed looping. looped_told c.looped_events_carry_parts.ensures c.loop_is_audited.ensures _ c.run_command.result seed c.run_command.ensures.ends looping

pub returns-clause-aimed : goal.returns-clause-aimed
returns-clause-aimed g c = aimed _ c.run_command.result c.run_command.ensures.ends

pub returns-clause-tracks : goal.returns-clause-tracks
returns-clause-tracks g c = λ reports. c.runs_print_within_bounds.ensures _ c.run_command.result c.run_command.ensures.ends
    (offsets_reported (texts_of c.args.words.now) reports) (usage_is_plain c.args.words.now)

pub returns-clause-follows : goal.returns-clause-follows
returns-clause-follows g c = λ audits.
    audit_told c.reading_is_accepted.ensures c.events_can_come.ensures c.offsets_follow.ensures c.events_carry_parts.ensures c.one_audit.ensures _ c.run_command.result c.run_command.ensures.ends audits

pub returns-clause-looped_follows : goal.returns-clause-looped_follows
returns-clause-looped_follows g c = λ seed looping.
    loop_told c.offsets_follow.ensures c.looped_events_carry_parts.ensures c.loop_is_audited.ensures _ c.run_command.result seed c.run_command.ensures.ends looping

pub returns-clause-synced : goal.returns-clause-synced
returns-clause-synced g c = λ asks.
    steps_synced
    (record {
      accepted = c.reading_is_accepted.ensures;
      can = c.events_can_come.ensures;
      law = c.steps_come_synced.ensures;
      audits = c.events_carry_parts.ensures;
      simulations = c.made_events_carry_parts.ensures;
      loops = c.looped_events_carry_parts.ensures;
      one = c.one_audit.ensures;
      apart = c.loop_is_audited.ensures;
    }) _ c.run_command.result c.run_command.ensures.ends asks
