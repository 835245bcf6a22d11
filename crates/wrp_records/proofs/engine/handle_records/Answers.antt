-- Each record is handled, or ends the handling.
use Rattle.std.proofs.Common.{◌∙◌, None, Some, refl, rules, arith}
use Rattle.std.proofs.KnownBytes.{Appends-nil, Consumes-nil}
use Rattle.wrp_io.specs.Faults.{Rose}
use Rattle.wrp_records.proofs.Passing.{Ends}
use Rattle.wrp_records.proofs.Reaching.{begins, moved}
use Rattle.wrp_records.proofs.engine.handle_records.Goals as goal

pub records-init : goal.records-init
records-init g c = record {
  reached = begins (g.M.Machine.accepts (g.M.Machine.setting c.args.machine.now)) (g.M.Machine.has_taken c.args.machine.now) c.args.reader.now _ _ _
      c.requires.fresh.1 c.requires.fresh.0 (Consumes-nil _) (Appends-nil _) c.new-waiting.ensures.items;
  setting = refl;
  ready = c.requires.ready;
  count = omega (arith, c.requires.none);
  at_end = c.requires.at_end;
  ended = λ is. is;
  source = refl;
  sink = refl;
}

pub returns-in-Some-clause-stands : goal.returns-in-Some-clause-stands
returns-in-Some-clause-stands g c =
    let next = moved (λ s. Ends (g.M.Machine.accepts s) (g.M.Machine.refuses s) (g.M.Machine.has_taken c.records.machine) (g.M.Machine.has_taken c.handle_next.new.machine) c.records.reader c.handle_next.new.reader
    (g.S.Source.left c.records.source) (g.S.Source.left c.handle_next.new.source) (g.K.Sink.held c.records.sink) (g.K.Sink.held c.handle_next.new.sink) c.records.waiting.items c.handle_next.new.waiting.items c.records.number c.handle_next.new.number (Some c.in-Some.status)) _ _
    c.records.invariant.setting c.in-Some.ensures.stands in
    next _ _ _ c.records.invariant.reached

pub records-preserved : goal.records-preserved
records-preserved g c =
    let next = moved (λ s. Ends (g.M.Machine.accepts s) (g.M.Machine.refuses s) (g.M.Machine.has_taken c.records.machine) (g.M.Machine.has_taken c.handle_next.new.machine) c.records.reader c.handle_next.new.reader
    (g.S.Source.left c.records.source) (g.S.Source.left c.handle_next.new.source) (g.K.Sink.held c.records.sink) (g.K.Sink.held c.handle_next.new.sink) c.records.waiting.items c.handle_next.new.waiting.items c.records.number c.handle_next.new.number None) _ _
    c.records.invariant.setting c.in-None.ensures.stands in
    record {
      reached = next _ _ _ c.records.invariant.reached;
      setting = c.handle_next.ensures.machine.1 ∙ c.records.invariant.setting;
      ready = c.handle_next.ensures.machine.0;
      count = (c.in-None.ensures.count refl).0;
      at_end = c.handle_next.ensures.at_end;
      ended = search rules;
      source = c.in-None.ensures.faults.0 ∙ c.records.invariant.source;
      sink = c.in-None.ensures.faults.1 ∙ c.records.invariant.sink;
    }

pub returns-in-Some-clause-open : goal.returns-in-Some-clause-open
returns-in-Some-clause-open g c = λ is. (c.in-Some.ensures.faults.0 is).1

pub returns-in-Some-clause-read_fault : goal.returns-in-Some-clause-read_fault
returns-in-Some-clause-read_fault g c = λ is. moved (λ n. Rose n (g.S.Source.faults c.handle_next.new.source)) _ _ c.records.invariant.source (c.in-Some.ensures.faults.0 is).0

pub returns-in-Some-clause-read_kept : goal.returns-in-Some-clause-read_kept
returns-in-Some-clause-read_kept g c = λ other. c.in-Some.ensures.faults.1 other ∙ c.records.invariant.source

pub returns-in-Some-clause-write_fault : goal.returns-in-Some-clause-write_fault
returns-in-Some-clause-write_fault g c = λ is. moved (λ n. Rose n (g.K.Sink.faults c.handle_next.new.sink)) _ _ c.records.invariant.sink (c.in-Some.ensures.faults.2 is)

pub returns-in-Some-clause-write_kept : goal.returns-in-Some-clause-write_kept
returns-in-Some-clause-write_kept g c = λ other. c.in-Some.ensures.faults.3 other ∙ c.records.invariant.sink

pub returns-in-Some-clause-never : goal.returns-in-Some-clause-never
returns-in-Some-clause-never g c = let f = c.in-Some.ensures.faults in (f.4, f.5, f.6, f.7, f.8)
