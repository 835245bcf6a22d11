-- The numbers of the network are read as they are.
use Rattle.std.proofs.Common.{lit<}
use Rattle.wrp_bounds.specs.Inequalities.{lock_counts}
use Rattle.wrp_bounds.proofs.Counts.{read_between}
use Rattle.wrp_bounds.proofs.inequalities.lock_counts.Goals as goal

pub returns : goal.returns
unfolding lock_counts
returns c =
    cc (
      read_between 0 1_000_000 c.args.cfg.now.delock_samples c.requires.delock_samples (lit< tt),
      read_between 1 1_000_000 c.args.cfg.now.lock_samples c.requires.lock_samples (lit< tt),
    )
