-- The port is named by a link of the network.
use Rattle.std.proofs.Common.{◌∙◌, ap, sym}
use Rattle.std.specs.Option.{is_some}
use Rattle.wrp_trace.specs.LineSetting.{LineSetting}
use Rattle.wrp_replay.proofs.BareSetting.{port_bare}
use Rattle.wrp_replay.proofs.counting.has_port.Goals as goal

pub returns : goal.returns
returns c =
    let site : LineSetting = record { cfg = c.args.replayed.net.now.cfg; db = c.args.replayed.net.now.db; node = c.args.replayed.node } in
    c.is_some.ensures ∙ ap is_some c.pair_at.ensures ∙ sym (port_bare site c.args.port)
