-- Both ends are nodes, and the numbers are read as they are.
use Rattle.std.proofs.Common.{lit<, ◌^◌}
use Rattle.wrp_bounds.proofs.Counts.{read_between, read_of_size}
use Rattle.wrp_bounds.proofs.Placed.{numbers_over-at}
use Rattle.wrp_bounds.proofs.network.numbers_over.Goals as goal

pub returns-clause-value : goal.returns-clause-value
returns-clause-value c =
    cc (
      numbers_over-at c.args.cfg.now c.args.link.now c.node_at-own.result.now c.node_at-parent.result.now c.node_at-own.ensures.value c.node_at-parent.ensures.value,
      read_between 1 1_000_000_000 c.args.cfg.now.track_tau c.requires.ranges.track_tau (lit< tt),
      read_between 1 1_000_000_000 c.args.cfg.now.loop_tau c.requires.ranges.loop_tau (lit< tt),
      read_of_size (2 ^ 38) c.args.link.now.kappa c.requires.placed.ranges.kappa (lit< tt),
    )
