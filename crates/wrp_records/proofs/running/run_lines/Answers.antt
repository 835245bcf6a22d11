-- What follows the records, or how their handling ends before that.
use Rattle.std.proofs.Common.{◌≡◌, subst}
use Rattle.wrp_records.specs.declared.status.Status.TheVariants.{Done, ReadFault, WriteFault}
use Rattle.wrp_records.specs.LineMeaning.{LineMeaning, meaning_by}
use Rattle.wrp_records.specs.LinesAfter.{Closed}
use Rattle.wrp_records.proofs.Passed.{passes_closed, passes_stopped}
use Rattle.wrp_records.proofs.running.run_lines.Goals as goal

not_read : Done ≡ ReadFault → ⊥
not_read e = cc

not_write : Done ≡ WriteFault → ⊥
not_write e = cc

pub returns-in-Done : goal.returns-in-Done
returns-in-Done g c =
    let s = g.M.Machine.setting c.args.machine.now in
    let meaning : LineMeaning = meaning_by (g.M.Machine.accepts s) (g.M.Machine.refuses s) (g.M.Machine.closes s) (g.M.Machine.bars s) in
    let how = subst (λ k. Closed (g.M.Machine.has_taken c.handle_records.new.machine) (meaning_by (g.M.Machine.accepts k) (g.M.Machine.refuses k) (g.M.Machine.closes k) (g.M.Machine.bars k))
    c.close.result (g.K.Sink.held c.handle_records.new.sink) (g.K.Sink.held c.close.new.sink)) c.in-Done.ensures.setting c.close.ensures.stands in
    record {
      passes = passes_closed meaning (g.M.Machine.has_taken c.handle_records.new.machine) _ _ _ _ _ _ _ c.args.reader.now.rest c.args.reader.now.ended c.handle_records.new.reader c.close.result
          c.in-Done.ensures.stands how c.in-Done.ensures.at_end c.in-Done.ensures.ended (c.in-Done.ensures.read_kept not_read) c.close.ensures.never (c.in-Done.ensures.write_kept not_write)
          c.close.ensures.rose c.close.ensures.kept;
    }

pub returns-in_default : goal.returns-in_default
returns-in_default g c =
    let s = g.M.Machine.setting c.args.machine.now in
    let meaning : LineMeaning = meaning_by (g.M.Machine.accepts s) (g.M.Machine.refuses s) (g.M.Machine.closes s) (g.M.Machine.bars s) in
    record {
      passes = passes_stopped meaning (g.M.Machine.has_taken c.handle_records.new.machine) _ _ c.args.reader.now.rest c.args.reader.now.ended c.handle_records.new.reader c.handle_records.result
          c.handle_records.ensures.stands c.in_default.not-Done c.handle_records.ensures.at_end c.handle_records.ensures.ended c.handle_records.ensures.open
          (record { failed = c.handle_records.ensures.read_fault; sound = c.handle_records.ensures.read_kept }) (record { failed = c.handle_records.ensures.write_fault; sound = c.handle_records.ensures.write_kept });
    }
