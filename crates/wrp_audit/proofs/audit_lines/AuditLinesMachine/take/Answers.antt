-- The audit goes on with an event, or the line is refused.
use Rattle.std.proofs.Common.{subst, sym}
use Rattle.std.proofs.lemmas.Result.{IfOk-weaker}
use Rattle.wrp_config.specs.declared.network.Network.{Network}
use Rattle.wrp_trace.specs.Events.{bare}
use Rattle.wrp_trace.specs.Places.{IsPlaceOf, event_in}
use Rattle.wrp_audit.proofs.AuditSteps.{accepted_so, refused_so, trace_so}
use Rattle.wrp_audit.proofs.audit_lines.AuditLinesMachine.take.Goals as goal

pub read_parts-requires-clause-names : goal.read_parts-requires-clause-names
read_parts-requires-clause-names g c = c.requires.ready.network.valid.plant.accepted.names

pub returns-in-Ok-clause-ready : goal.returns-in-Ok-clause-ready
returns-in-Ok-clause-ready g c = record {
  network = c.happen.ensures.ready;
  place = subst (λ (net : Network). IsPlaceOf net.cfg c.read_parts.new.place) (sym c.happen.ensures.net) c.read_parts.ensures.place;
}

pub returns-in-Ok-clause-accepted : goal.returns-in-Ok-clause-accepted
returns-in-Ok-clause-accepted g c = λ lines before.
    IfOk-weaker c.happen.result _ _
    (λ answer happens is has accepted.
    accepted_so c.one_audit.ensures c.args.self.now.network c.happen.new.self lines c.args.line.now before c.happen.new.text.items
    (bare (event_in c.read_parts.new.place)) c.args.number answer
    (sym c.in-Ok.ensures.value) c.happen.ensures.net c.happen.ensures.ready happens is has accepted)
    c.happen.ensures.happens

pub returns-in-Ok-clause-refused : goal.returns-in-Ok-clause-refused
returns-in-Ok-clause-refused g c = λ lines refusal.
    IfOk-weaker c.happen.result _ _
    (λ answer happens is has counts.
    refused_so c.args.self.now.network c.happen.new.self.world lines c.args.line.now c.happen.new.text.items (bare (event_in c.read_parts.new.place))
    c.args.number answer refusal
    (sym c.in-Ok.ensures.value) counts happens is has)
    c.happen.ensures.happens

pub returns-in-Err-clause-refused : goal.returns-in-Err-clause-refused
returns-in-Err-clause-refused g c = λ lines refusal.
    IfOk-weaker c.refuse.result _ _
    (λ answer tells is has counts.
    trace_so c.args.self.now.network.emit c.args.self.now.network.world.plant.net lines c.args.line.now c.args.text.now.items c.refuse.new.text.items
    c.in-Err.fault c.args.number answer refusal tells c.requires.none
    c.in-Err.ensures.value is counts)
    c.refuse.ensures
