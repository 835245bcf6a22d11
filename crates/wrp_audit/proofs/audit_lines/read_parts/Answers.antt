-- A plain line says what its parts say, and any other line is refused.
use Rattle.std.proofs.Common.{◌∙◌, Err, subst, sym}
use Rattle.wrp_base.specs.declared.fault.TraceFault.TheVariants.{Fields}
use Rattle.wrp_config.specs.declared.network.Network.{Network}
use Rattle.wrp_fields.specs.Reading.{IsReading}
use Rattle.wrp_trace.proofs.ReadingLemmas.{is_reading}
use Rattle.wrp_trace.specs.Events.{event_of, event_read, told_in}
use Rattle.wrp_trace.specs.Places.{event_in}
use Rattle.wrp_records.proofs.LineParts.{read_none, read_parts}
use Rattle.wrp_audit.proofs.audit_lines.read_parts.Goals as goal

pub returns-in-Some-clause-value : goal.returns-in-Some-clause-value
returns-in-Some-clause-value g c =
    let cfg = c.net.result.now.cfg in
    let said = c.read_event_into.ensures.value ∙ sym (read_parts (event_of cfg) c.args.line.now c.in-Some.row.now (rw c.in-Some.is at c.requires.split)) in
    subst
    (λ (net : Network). IsReading (event_read net.cfg c.args.line.now) (told_in c.read_event_into.result (event_in c.read_event_into.new.place))) c.net.ensures
    (is_reading (event_read cfg c.args.line.now) _ said)

pub returns-in-None-clause-value : goal.returns-in-None-clause-value
returns-in-None-clause-value g c =
    let cfg = c.args.network.now.world.plant.net.cfg in
    is_reading (event_read cfg c.args.line.now) (Err Fields) (sym (read_none (event_of cfg) c.args.line.now (rw c.in-None.is at c.requires.split)))
