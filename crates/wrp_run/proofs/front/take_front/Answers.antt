-- How the run ends if the part before the records is refused, or cannot be taken.
use Rattle.std.proofs.Common.{ℕ, List, Ok, Err, subst}
use Rattle.std.proofs.KnownBytes.{Appends-nil}
use Rattle.wrp_network_text.specs.Reading.{IsReadingOf}
use Rattle.wrp_asked.specs.declared.network_text.HowItEnded.{HowItEnded}
use Rattle.wrp_asked.specs.Ends.{Run}
use Rattle.wrp_asked.specs.Input.{NetworkOutcome}
use Rattle.wrp_records.specs.Passages.{passage}
use Rattle.wrp_words.specs.Requests.{asked_in}
use Rattle.wrp_asked.proofs.Asking.{size_ends, refused_ends, network_fails, uncalled}
use Rattle.wrp_run.proofs.front.take_front.Goals as goal

pub returns-in-TooLong-clause-ends : goal.returns-in-TooLong-clause-ends
returns-in-TooLong-clause-ends g c = λ link same.
    let run : Run = record {
      asked = asked_in c.args.words.now;
      source = passage g.S.Source.left g.S.Source.faults c.args.source.now c.take_network-text.new.source;
      sink = passage g.K.Sink.held g.K.Sink.faults c.args.sink.now c.answer.new.sink;
      link = link;
    } in
    let taken = c.take_network-text.ensures.taken in
    let long =
    subst (λ (e : HowItEnded). NetworkOutcome e taken.0 c.take_network-text.result.text.items c.take_network-text.new.reader) c.in-TooLong.is taken.2 in
    size_ends run c.answer.result taken.0 c.take_network-text.new.reader c.requires.networked taken.1 long c.take_network-text.ensures.at_end
    (rw c.as_bytes.ensures.value at c.answer.ensures.how) c.answer.ensures.rose (uncalled link same)

pub returns-in-Failed-clause-ends : goal.returns-in-Failed-clause-ends
returns-in-Failed-clause-ends g c = λ link same.
    let run : Run = record {
      asked = asked_in c.args.words.now;
      source = passage g.S.Source.left g.S.Source.faults c.args.source.now c.take_network-text.new.source;
      sink = passage g.K.Sink.held g.K.Sink.faults c.args.sink.now c.args.sink.now;
      link = link;
    } in
    let taken = c.take_network-text.ensures.taken in
    let cut =
    subst (λ (e : HowItEnded). NetworkOutcome e taken.0 c.take_network-text.result.text.items c.take_network-text.new.reader) c.in-Failed.is taken.2 in
    network_fails run taken.0 c.requires.networked taken.1 cut (Appends-nil _) (c.take_network-text.ensures.rose c.in-Failed.is) (uncalled link same)

pub returns-in-Ok-clause-front : goal.returns-in-Ok-clause-front
returns-in-Ok-clause-front g c =
    let taken = c.take_network-text.ensures.taken in
    let whole =
    subst (λ (e : HowItEnded). NetworkOutcome e taken.0 c.take_network-text.result.text.items c.take_network-text.new.reader) c.in-Whole.is taken.2 in
    record {
      network = taken.0;
      taken = taken.1;
      divided = whole.0;
      within = whole.1;
      at_end = c.take_network-text.ensures.at_end;
      reads = subst (λ (t : List ℕ). IsReadingOf t (Ok c.in-Ok.net.value)) c.deref.ensures.value c.in-Ok.ensures.reads;
    }

pub returns-in-Err-clause-ends : goal.returns-in-Err-clause-ends
returns-in-Err-clause-ends g c = λ link same.
    let run : Run = record {
      asked = asked_in c.args.words.now;
      source = passage g.S.Source.left g.S.Source.faults c.args.source.now c.take_network-text.new.source;
      sink = passage g.K.Sink.held g.K.Sink.faults c.args.sink.now c.refuse_network.new.sink;
      link = link;
    } in
    let taken = c.take_network-text.ensures.taken in
    let whole =
    subst (λ (e : HowItEnded). NetworkOutcome e taken.0 c.take_network-text.result.text.items c.take_network-text.new.reader) c.in-Whole.is taken.2 in
    let reads = subst (λ (t : List ℕ). IsReadingOf t (Err c.in-Err.fault)) c.deref.ensures.value c.in-Err.ensures.refused in
    refused_ends run c.refuse_network.result taken.0 c.take_network-text.result.text.items c.in-Err.fault c.take_network-text.new.reader c.requires.networked taken.1 whole.0 whole.1
    c.take_network-text.ensures.at_end reads c.refuse_network.ensures.how c.refuse_network.ensures.rose (uncalled link same)
