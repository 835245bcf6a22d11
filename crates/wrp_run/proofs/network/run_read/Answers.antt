-- The output after the front, by the whole input.
use Rattle.std.proofs.Common.{◌∙◌, ℕ, subst}
use Rattle.wrp_io.specs.Faults.{Rose}
use Rattle.wrp_records.specs.Passages.{passage}
use Rattle.wrp_asked.specs.Ends.{EndsUnlinked}
use Rattle.wrp_words.specs.Requests.{asked_in}
use Rattle.wrp_run.proofs.AskingWork.{asked_networked}
use Rattle.wrp_run.proofs.network.run_read.Goals as goal

pub take_front-requires-clause-networked : goal.take_front-requires-clause-networked
take_front-requires-clause-networked g c = asked_networked (asked_in c.args.words.now) c.args.asked c.requires.asked

pub returns-in-Ok-clause-ends : goal.returns-in-Ok-clause-ends
returns-in-Ok-clause-ends g c =
    let ends = c.run_behind.ensures.ends (g.S.Source.left c.args.source.now) c.in-Ok.ensures.front in
    let source = subst
    (λ (n : ℕ). EndsUnlinked (asked_in c.args.words.now)
    (record { before = g.S.Source.left c.args.source.now; now = g.S.Source.left c.run_behind.new.source; faults = n; faults_now = g.S.Source.faults c.run_behind.new.source })
    (passage g.K.Sink.held g.K.Sink.faults c.take_front.new.sink c.run_behind.new.sink) c.run_behind.result)
    c.in-Ok.ensures.source ends in
    subst
    (λ k. EndsUnlinked (asked_in c.args.words.now) (passage g.S.Source.left g.S.Source.faults c.args.source.now c.run_behind.new.source)
    (passage g.K.Sink.held g.K.Sink.faults k c.run_behind.new.sink) c.run_behind.result)
    c.in-Ok.ensures.sink source

pub returns-in-Ok-clause-read : goal.returns-in-Ok-clause-read
returns-in-Ok-clause-read g c = record {
  failed = λ is. subst (λ (n : ℕ). Rose n (g.S.Source.faults c.run_behind.new.source)) c.in-Ok.ensures.source (c.run_behind.ensures.read.failed is);
  sound = λ other. c.run_behind.ensures.read.sound other ∙ c.in-Ok.ensures.source;
}
