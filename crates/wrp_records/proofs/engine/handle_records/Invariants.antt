use Rattle.std.proofs.Common.{◌≡◌, ◌-◌, ◌^◌, ◌≤◌, true}
use Rattle.std.specs.Io.KnownBytes.{IsAtEnd}
use Rattle.wrp_records.specs.Stream.{Handles}
use Rattle.wrp_records.specs.Reached.{Reached}
use Rattle.wrp_records.proofs.engine.handle_records.Given as goal

abbrev pub invariant-records : goal.invariant-records
invariant-records g l =
    record {
      reached : Reached (Handles (g.M.Machine.accepts (g.M.Machine.setting l.fn.machine))) (g.M.Machine.has_taken l.machine) l.fn.reader.rest l.reader
          (g.S.Source.left l.fn.source) (g.S.Source.left l.source) (g.K.Sink.held l.fn.sink) (g.K.Sink.held l.sink) l.waiting.items l.number;
      setting : g.M.Machine.setting l.machine ≡ g.M.Machine.setting l.fn.machine;
      ready : g.M.Machine.is_ready l.machine;
      count : g.M.Machine.count l.machine ≤ l.number;
      at_end : l.reader.ended ≡ true → IsAtEnd (g.S.Source.left l.source);
      ended : l.fn.reader.ended ≡ true → l.reader.ended ≡ true;
      source : g.S.Source.faults l.source ≡ g.S.Source.faults l.fn.source;
      sink : g.K.Sink.faults l.sink ≡ g.K.Sink.faults l.fn.sink;
    }

abbrev pub decreases-records : goal.decreases-records
decreases-records g l = 2 ^ 32 - l.number
