-- The place can hold the network's events.
use Rattle.std.proofs.Common.{◌∙◌, subst, sym}
use Rattle.wrp_config.specs.declared.network.Network.{Network}
use Rattle.wrp_trace.specs.Places.{IsPlaceOf}
use Rattle.wrp_audit.proofs.audit_lines.AuditLines.new.Goals as goal

pub returns-clause-ready : goal.returns-clause-ready
returns-clause-ready g c = record {
  network = c.in_ok-network.ensures.ready;
  place =
      subst (λ (net : Network). IsPlaceOf net.cfg c.new-place.result)
      (c.deref.ensures ∙ sym c.into_inner.ensures ∙ sym c.in_ok-network.ensures.net) c.new-place.ensures;
}
