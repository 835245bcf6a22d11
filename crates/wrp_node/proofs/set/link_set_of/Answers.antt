-- The counts are read as they are.
use Rattle.std.proofs.Common.{lit<}
use Rattle.wrp_node.proofs.Ranges.{read_between}
use Rattle.wrp_node.proofs.set.link_set_of.Goals as goal

pub returns : goal.returns
returns c =
    let net = c.args.net.now in
    cc (
      read_between 2 1_000_000 net.quiet c.requires.quiet (lit< tt),
      read_between 1 1_000_000 net.wait c.requires.wait (lit< tt),
      read_between 1 1_000_000 net.lock_wait c.requires.lock_wait (lit< tt),
      read_between 0 100 net.retries c.requires.retries (lit< tt),
      read_between 1 1_000_000 net.holdoff c.requires.holdoff (lit< tt),
    )
