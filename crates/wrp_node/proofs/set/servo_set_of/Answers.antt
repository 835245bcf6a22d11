-- The numbers are read as they are.
use Rattle.std.proofs.Common.{lit<, ◌^◌}
use Rattle.wrp_node.proofs.Ranges.{read_between, read_wide}
use Rattle.wrp_node.proofs.set.servo_set_of.Goals as goal

pub returns : goal.returns
returns c =
    let net = c.args.net.now in
    cc (
      read_between 2 1_000_000 net.holdover c.requires.holdover (lit< tt),
      read_between 1 1_000_000 net.age c.requires.age (lit< tt),
      read_between 1 1_000_000 net.stable c.requires.stable (lit< tt),
      read_between 1 100 net.gap c.requires.gap (lit< tt),
      read_between 1 1_000_000 net.lock_samples c.requires.lock_samples (lit< tt),
      read_between 0 1_000_000 net.delock_samples c.requires.delock_samples (lit< tt),
      read_between 1 (2 ^ 20) net.threshold c.requires.threshold (lit< tt),
      read_wide 1 1_000_000_000 net.track_tau c.from.result c.requires.track_tau (lit< tt) c.from.ensures,
      read_wide 1 1_000_000_000 net.loop_tau c.from-2.result c.requires.loop_tau (lit< tt) c.from-2.ensures,
      read_wide 1 1_000_000_000 net.phase_step c.from-3.result c.requires.phase_step (lit< tt) c.from-3.ensures,
      read_between 0 65_535 net.kp c.requires.kp (lit< tt),
      read_between 0 65_535 net.ki c.requires.ki (lit< tt),
      read_between 0 65_535 net.bias c.requires.bias (lit< tt),
    )
