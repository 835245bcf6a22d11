-- The replay of a node that is named, by the whole input.
use Rattle.std.proofs.Common.{◌∙◌, ◌<◌, [], refl, subst, sym}
use Rattle.wrp_network.specs.Network.{node_count}
use Rattle.wrp_config.proofs.Lists.{found_place}
use Rattle.wrp_trace.specs.LineSetting.{LineSetting, line_setting_of}
use Rattle.wrp_config.specs.declared.network.Network.{Network}
use Rattle.wrp_records.specs.ByLines.{of_lines}
use Rattle.wrp_records.specs.Passages.{Passes, passage}
use Rattle.wrp_replay.specs.Replays.{meaning_of}
use Rattle.wrp_asked.specs.Tasks.{Replay, AsksFor}
use Rattle.wrp_words.specs.Requests.{asked_in}
use Rattle.wrp_asked.proofs.Asking.{TookNetwork, records_end}
use Rattle.wrp_replay.proofs.BareSetting.{bare_setting, named_bare}
use Rattle.wrp_run.proofs.network.replay_behind.Goals as goal

pub replay-requires-clause-node : goal.replay-requires-clause-node
replay-requires-clause-node g c =
    subst (λ (net : Network). c.args.node < node_count net.cfg) (sym c.deref-net.ensures)
    (found_place _ c.args.front.net.value.cfg.nodes.items c.args.node c.requires.named).within

pub returns-clause-ends : goal.returns-clause-ends
returns-clause-ends g c = λ first front.
    let asked = asked_in c.args.words.now in
    let text = c.args.front.text.items in
    let site : LineSetting = bare_setting (line_setting_of c.args.front.net.value c.args.node) in
    let asks : AsksFor asked text (Replay c.args.name.now site) = (
      front.within,
      c.requires.asks,
      (record { net = c.args.front.net.value; reads = front.reads; cfg = refl; db = refl }, named_bare c.args.front.net.value.cfg c.args.name.now ∙ c.requires.named),
    ) in
    let network : TookNetwork asked first (g.S.Source.left c.args.source.now) text c.args.reader.now (Replay c.args.name.now site) =
    record { network = front.network; taken = front.taken; divided = front.divided; at_end = front.at_end; asks = asks } in
    let passes = subst
    (λ (net : Network). Passes (of_lines (meaning_of (bare_setting (line_setting_of net c.args.node)))) (passage g.S.Source.left g.S.Source.faults c.args.source.now c.replay.new.source)
    (passage g.K.Sink.held g.K.Sink.faults c.args.sink.now c.replay.new.sink) c.args.reader.now.rest c.args.reader.now.ended c.replay.new.reader.ended [] c.replay.result)
    c.deref-net.ensures c.replay.ensures.passes in
    records_end asked first (passage g.S.Source.left g.S.Source.faults c.args.source.now c.replay.new.source)
    (passage g.K.Sink.held g.K.Sink.faults c.args.sink.now c.replay.new.sink)
    text c.args.reader.now c.replay.new.reader.ended (Replay c.args.name.now site) c.replay.result network passes
