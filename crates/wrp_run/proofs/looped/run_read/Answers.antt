-- The output after the front, by the whole input.
use Rattle.std.proofs.Common.{◌∙◌, refl, ℕ, subst}
use Rattle.wrp_io.specs.Faults.{Rose}
use Rattle.wrp_records.specs.Passages.{passage}
use Rattle.wrp_asked.specs.Ends.{Ends}
use Rattle.wrp_words.specs.Requests.{asked_in}
use Rattle.wrp_asked.proofs.LoopEnding.{unlinked}
use Rattle.wrp_commands.specs.Request as requests
use Rattle.wrp_run.proofs.looped.run_read.Goals as goal

pub take_front-requires-clause-networked : goal.take_front-requires-clause-networked
take_front-requires-clause-networked g c = (requests.Loop c.args.seed, c.requires.asks)

pub returns-in-Ok-clause-ends : goal.returns-in-Ok-clause-ends
returns-in-Ok-clause-ends g c =
    let ends = c.run_behind.ensures.ends (g.S.Source.left c.args.source.now) c.in-Ok.ensures.front in
    let link = passage g.N.Link.told g.N.Link.faults c.args.link.now c.run_behind.new.link in
    let source = subst
    (λ (n : ℕ). Ends (record {
      asked = asked_in c.args.words.now;
      source = record { before = g.S.Source.left c.args.source.now; now = g.S.Source.left c.run_behind.new.source; faults = n; faults_now = g.S.Source.faults c.run_behind.new.source };
      sink = passage g.K.Sink.held g.K.Sink.faults c.take_front.new.sink c.run_behind.new.sink;
      link = link;
    }) c.run_behind.result)
    c.in-Ok.ensures.source ends in
    subst
    (λ k. Ends (record {
      asked = asked_in c.args.words.now;
      source = passage g.S.Source.left g.S.Source.faults c.args.source.now c.run_behind.new.source;
      sink = passage g.K.Sink.held g.K.Sink.faults k c.run_behind.new.sink;
      link = link;
    }) c.run_behind.result)
    c.in-Ok.ensures.sink source

pub returns-in-Ok-clause-read : goal.returns-in-Ok-clause-read
returns-in-Ok-clause-read g c = record {
  failed = λ is. subst (λ (n : ℕ). Rose n (g.S.Source.faults c.run_behind.new.source)) c.in-Ok.ensures.source (c.run_behind.ensures.read.failed is);
  sound = λ other. c.run_behind.ensures.read.sound other ∙ c.in-Ok.ensures.source;
}

pub returns-in-Err-clause-ends : goal.returns-in-Err-clause-ends
returns-in-Err-clause-ends g c = c.in-Err.ensures.ends (passage g.N.Link.told g.N.Link.faults c.args.link.now c.args.link.now) refl

pub returns-in-Err-clause-linked : goal.returns-in-Err-clause-linked
returns-in-Err-clause-linked g c = unlinked _ _ _ c.in-Err.status _ c.in-Err.ensures.ends refl
