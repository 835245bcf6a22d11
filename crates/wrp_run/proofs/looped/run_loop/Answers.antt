-- If memory runs out for the reader, nothing was taken.
use Rattle.std.proofs.Common.{refl}
use Rattle.std.proofs.KnownBytes.{Appends-nil}
use Rattle.wrp_records.specs.Passages.{passage}
use Rattle.wrp_asked.specs.Ends.{Run}
use Rattle.wrp_words.specs.Requests.{asked_in}
use Rattle.wrp_asked.proofs.Asking.{memory_ends, uncalled}
use Rattle.wrp_run.proofs.looped.run_loop.Goals as goal

pub returns-in-Err-clause-ends : goal.returns-in-Err-clause-ends
returns-in-Err-clause-ends g c =
    let run : Run = record {
      asked = asked_in c.args.words.now;
      source = passage g.S.Source.left g.S.Source.faults c.args.source.now c.args.source.now;
      sink = passage g.K.Sink.held g.K.Sink.faults c.args.sink.now c.args.sink.now;
      link = passage g.N.Link.told g.N.Link.faults c.args.link.now c.args.link.now;
    } in
    memory_ends run (Appends-nil _) (uncalled run.link refl)
