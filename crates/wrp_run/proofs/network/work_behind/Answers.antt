-- What the work on a network says of the whole input; or memory runs out for a copy of the network.
use Rattle.std.proofs.Common.{◌∙◌, subst, sym}
use Rattle.std.proofs.KnownBytes.{Appends-nil}
use Rattle.wrp_config.specs.declared.network.Network.{Network}
use Rattle.wrp_config.specs.Same.{IsSameNetwork}
use Rattle.wrp_records.specs.Passages.{passage}
use Rattle.wrp_network_world.specs.NetworkSetting.{setting_in}
use Rattle.wrp_asked.specs.Ends.{Run, begun_at}
use Rattle.wrp_words.specs.Requests.{asked_in}
use Rattle.wrp_asked.proofs.Asking.{TookNetwork, memory_ends, records_end, uncalled}
use Rattle.wrp_run.proofs.AskingWork.{WorkTask, asks_same, copy_read, copy_same, fits_same, work_task}
use Rattle.wrp_run.proofs.network.work_behind.Goals as goal

pub returns-in-Err-clause-ends : goal.returns-in-Err-clause-ends
returns-in-Err-clause-ends g c = λ first front link same.
    let run : Run = record {
      asked = asked_in c.args.words.now;
      source = begun_at first (passage g.S.Source.left g.S.Source.faults c.args.source.now c.args.source.now);
      sink = passage g.K.Sink.held g.K.Sink.faults c.args.sink.now c.args.sink.now;
      link = link;
    } in
    memory_ends run (Appends-nil _) (uncalled link same)

pub work_on-requires-clause-same : goal.work_on-requires-clause-same
work_on-requires-clause-same g c =
    subst (λ (net : Network). IsSameNetwork net c.in-Ok.own.value) (sym c.deref-2.ensures)
    (copy_same c.args.front.net.value c.in-Ok.own.value (c.in-Ok.ensures ∙ c.deref.ensures))

pub work_on-requires-clause-work : goal.work_on-requires-clause-work
work_on-requires-clause-work g c =
    fits_same c.args.front.net.value c.in-Ok.own.value c.args.work
    (copy_same c.args.front.net.value c.in-Ok.own.value (c.in-Ok.ensures ∙ c.deref.ensures)) c.requires.fits

pub returns-clause-ends : goal.returns-clause-ends
returns-clause-ends g c = λ first front.
    let asked = asked_in c.args.words.now in
    let text = c.args.front.text.items in
    let own = copy_read text c.args.front.net.value c.in-Ok.own.value (c.in-Ok.ensures ∙ c.deref.ensures) c.requires.reads in
    let same = copy_same c.args.front.net.value c.in-Ok.own.value (c.in-Ok.ensures ∙ c.deref.ensures) in
    let what : WorkTask asked text c.args.work (setting_in c.in-Ok.own.value) =
    work_task asked text c.args.work c.in-Ok.own.value
    (asks_same asked c.args.front.net.value c.in-Ok.own.value c.args.work same c.requires.asks) front.within own in
    let network : TookNetwork asked first (g.S.Source.left c.args.source.now) text c.args.reader.now what.task = record {
      network = front.network;
      taken = front.taken;
      divided = front.divided;
      at_end = front.at_end;
      asks = what.asks;
    } in
    records_end asked first (passage g.S.Source.left g.S.Source.faults c.args.source.now c.work_on.new.source)
    (passage g.K.Sink.held g.K.Sink.faults c.args.sink.now c.work_on.new.sink)
    text c.args.reader.now c.work_on.new.reader.ended what.task c.work_on.result network (what.due _ _ _ _ _ _ c.work_on.ensures.passes)
