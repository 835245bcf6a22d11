-- The work is an audit, or a simulation.
use Rattle.std.proofs.Common.{[], subst, sym}
use Rattle.wrp_records.specs.ByLines.{of_lines}
use Rattle.wrp_records.specs.Passages.{Passes, passage}
use Rattle.wrp_run.specs.declared.network.Work.{Work}
use Rattle.wrp_run.specs.Asked.{work_meaning}
use Rattle.wrp_network_world.specs.NetworkSetting.{setting_in}
use Rattle.wrp_run.proofs.network.work_by.Goals as goal

pub returns-in-Audit : goal.returns-in-Audit
returns-in-Audit g c = record {
  passes = subst (λ (work : Work). Passes (of_lines (work_meaning work (setting_in c.args.net.value))) (passage g.S.Source.left g.S.Source.faults c.args.source.now c.audit_by.new.source)
      (passage g.K.Sink.held g.K.Sink.faults c.args.sink.now c.audit_by.new.sink) c.args.reader.now.rest c.args.reader.now.ended c.audit_by.new.reader.ended [] c.audit_by.result)
      (sym c.in-Audit.is) c.audit_by.ensures.passes;
}

pub returns-in-Simulate : goal.returns-in-Simulate
returns-in-Simulate g c = record {
  passes = subst (λ (work : Work). Passes (of_lines (work_meaning work (setting_in c.args.net.value))) (passage g.S.Source.left g.S.Source.faults c.args.source.now c.simulate.new.source)
      (passage g.K.Sink.held g.K.Sink.faults c.args.sink.now c.simulate.new.sink) c.args.reader.now.rest c.args.reader.now.ended c.simulate.new.reader.ended [] c.simulate.result)
      (sym c.in-Simulate.is) c.simulate.ensures.passes;
}
