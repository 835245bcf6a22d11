-- What the run over a link says of the whole input; or memory runs out for a copy of the network.
use Rattle.std.proofs.Common.{◌∙◌, subst, refl, sym}
use Rattle.std.proofs.KnownBytes.{Appends-nil}
use Rattle.wrp_config.specs.declared.network.Network.{Network}
use Rattle.wrp_config.specs.Same.{IsSameNetwork}
use Rattle.wrp_records.specs.Passages.{passage}
use Rattle.wrp_network_world.specs.NetworkSetting.{setting_in}
use Rattle.wrp_asked.specs.Ends.{Run, begun_at}
use Rattle.wrp_asked.specs.Tasks.{Loop}
use Rattle.wrp_words.specs.Requests.{asked_in}
use Rattle.wrp_asked.proofs.Asking.{TookNetwork, memory_ends, uncalled}
use Rattle.wrp_asked.proofs.LoopEnding.{loop_ends}
use Rattle.wrp_run.proofs.AskingWork.{copy_read, copy_same}
use Rattle.wrp_run.proofs.looped.run_behind.Goals as goal

pub returns-in-Err-clause-ends : goal.returns-in-Err-clause-ends
returns-in-Err-clause-ends g c = λ first front.
    let run : Run = record {
      asked = asked_in c.args.words.now;
      source = begun_at first (passage g.S.Source.left g.S.Source.faults c.args.source.now c.args.source.now);
      sink = passage g.K.Sink.held g.K.Sink.faults c.args.sink.now c.args.sink.now;
      link = passage g.N.Link.told g.N.Link.faults c.args.link.now c.args.link.now;
    } in
    memory_ends run (Appends-nil _) (uncalled run.link refl)

pub run_on-requires-clause-same : goal.run_on-requires-clause-same
run_on-requires-clause-same g c =
    subst (λ (net : Network). IsSameNetwork net c.in-Ok.own.value) (sym c.deref-2.ensures)
    (copy_same c.args.front.net.value c.in-Ok.own.value (c.in-Ok.ensures ∙ c.deref.ensures))

pub returns-clause-ends : goal.returns-clause-ends
returns-clause-ends g c = λ first front.
    let asked = asked_in c.args.words.now in
    let text = c.args.front.text.items in
    let own = copy_read c.args.front.text.items c.args.front.net.value c.in-Ok.own.value (c.in-Ok.ensures ∙ c.deref.ensures) c.requires.reads in
    let network : TookNetwork asked first (g.S.Source.left c.args.source.now) text c.args.reader.now (Loop (setting_in c.in-Ok.own.value) c.args.seed) = record {
      network = front.network;
      taken = front.taken;
      divided = front.divided;
      at_end = front.at_end;
      asks = (front.within, c.requires.asks, record { net = c.in-Ok.own.value; reads = own; is = refl });
    } in
    loop_ends asked first (passage g.S.Source.left g.S.Source.faults c.args.source.now c.run_on.new.source)
    (passage g.K.Sink.held g.K.Sink.faults c.args.sink.now c.run_on.new.sink)
    (passage g.N.Link.told g.N.Link.faults c.args.link.now c.run_on.new.link) text c.args.reader.now c.run_on.new.reader.ended
    (setting_in c.in-Ok.own.value) c.args.seed c.run_on.result network c.run_on.ensures.passes
