-- The network has no node with this name.
use Rattle.wrp_records.specs.Passages.{passage}
use Rattle.wrp_asked.specs.Answer.{AsksNone}
use Rattle.wrp_asked.specs.Ends.{Run, begun_at}
use Rattle.wrp_words.specs.Requests.{asked_in}
use Rattle.wrp_asked.proofs.Asking.{no_node_ends, uncalled}
use Rattle.wrp_run.proofs.network.lacks_node.Goals as goal

pub returns-clause-ends : goal.returns-clause-ends
returns-clause-ends g c = λ first front link same.
    let run : Run = record {
      asked = asked_in c.args.words.now;
      source = begun_at first (passage g.S.Source.left g.S.Source.faults c.args.source.now c.args.source.now);
      sink = passage g.K.Sink.held g.K.Sink.faults c.args.sink.now c.answer.new.sink;
      link = link;
    } in
    let none : AsksNone (asked_in c.args.words.now) c.args.front.text.items = record {
      name = c.args.name.now;
      asks = c.requires.asks;
      within = front.within;
      net = c.args.front.net.value;
      reads = front.reads;
      none = c.requires.none;
    } in
    no_node_ends run c.answer.result front.network c.args.front.text.items c.args.reader.now none front.taken front.divided front.at_end
    (rw c.as_bytes.ensures.value at c.answer.ensures.how) c.answer.ensures.rose (uncalled link same)
