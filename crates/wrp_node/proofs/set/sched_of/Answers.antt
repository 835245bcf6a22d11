-- The counts are read as they are.
use Rattle.std.proofs.Common.{lit<}
use Rattle.wrp_node.proofs.Ranges.{read_between}
use Rattle.wrp_node.proofs.set.sched_of.Goals as goal

pub returns : goal.returns
returns c =
    let net = c.args.net.now in
    cc (
      read_between 1 10_000 net.announce c.requires.announce (lit< tt),
      read_between 1 10_000 net.sync c.requires.sync (lit< tt),
      read_between 1 10_000 net.delay c.requires.delay (lit< tt),
      read_between 1 1_000_000 net.lease c.requires.lease (lit< tt),
    )
