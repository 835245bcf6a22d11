-- The numbers of the network are read as they are.
use Rattle.std.proofs.Common.{lit<}
use Rattle.wrp_bounds.specs.Inequalities.{quiet_time}
use Rattle.wrp_bounds.proofs.Counts.{read_between}
use Rattle.wrp_bounds.proofs.inequalities.quiet_time.Goals as goal

pub returns : goal.returns
unfolding quiet_time
returns c =
    cc (
    read_between 2 1_000_000 c.args.cfg.now.quiet c.requires.quiet (lit< tt)
    )
