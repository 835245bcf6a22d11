-- The machine begins with nothing taken; if memory runs out for the world, nothing is written.
use Rattle.std.proofs.Common.{[], refl, subst, Option, List, ℕ}
use Rattle.std.proofs.KnownBytes.{Appends-nil, Consumes-nil}
use Rattle.wrp_config.specs.declared.network.Network.{Network}
use Rattle.wrp_records.specs.ByLines.{of_lines}
use Rattle.wrp_records.specs.Passages.{Passage, Passes, passage}
use Rattle.wrp_records.proofs.Passed.{passes_nothing}
use Rattle.wrp_network_world.specs.NetworkSetting.{setting_in}
use Rattle.wrp_audit.specs.Audits.{meaning_for}
use Rattle.wrp_audit.proofs.AuditSteps.{audit_passes, nothing_accepted}
use Rattle.wrp_audit.proofs.auditing.audit_by.Goals as goal

pub run_lines-requires-clause-fresh : goal.run_lines-requires-clause-fresh
run_lines-requires-clause-fresh g c =
    (c.in-Ok.ensures.taken, nothing_accepted c.in-Ok.machine.network.emit (setting_in c.in-Ok.machine.network.world.plant.net))

pub returns-in-Err : goal.returns-in-Err
returns-in-Err g c = record {
  passes =
      passes_nothing (meaning_for c.args.emit (setting_in c.args.net.value)) _ _ c.args.reader.now.rest c.args.reader.now.ended
      (nothing_accepted c.args.emit (setting_in c.args.net.value))
      (Consumes-nil _) (Appends-nil _) c.requires.at_end refl refl;
}

pub returns-in-Ok : goal.returns-in-Ok
returns-in-Ok g c =
    let source : Passage (List ℕ) = passage g.S.Source.left g.S.Source.faults c.args.source.now c.run_lines.new.source in
    let sink : Passage (List ℕ) = passage g.K.Sink.held g.K.Sink.faults c.args.sink.now c.run_lines.new.sink in
    let machine = c.in-Ok.machine.network in
    let own =
    audit_passes machine.emit
    (setting_in machine.world.plant.net) source sink c.args.reader.now.rest c.args.reader.now.ended c.run_lines.new.reader.ended c.run_lines.result c.run_lines.ensures.passes in
    let net = subst (λ (k : Network). Passes (of_lines (meaning_for machine.emit (setting_in k))) source sink c.args.reader.now.rest c.args.reader.now.ended c.run_lines.new.reader.ended [] c.run_lines.result)
    c.in-Ok.ensures.net own in
    record {
      passes =
          subst
          (λ (k : Option ℕ). Passes (of_lines (meaning_for k (setting_in c.args.net.value))) source sink c.args.reader.now.rest c.args.reader.now.ended c.run_lines.new.reader.ended [] c.run_lines.result)
          c.in-Ok.ensures.emit net;
    }
