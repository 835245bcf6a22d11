-- The numbers of the network are read as they are.
use Rattle.std.proofs.Common.{lit<}
use Rattle.wrp_bounds.specs.Inequalities.{holdoff_time}
use Rattle.wrp_bounds.proofs.Counts.{read_between}
use Rattle.wrp_bounds.proofs.inequalities.holdoff_time.Goals as goal

pub returns : goal.returns
unfolding holdoff_time
returns c =
    cc (
      read_between 2 1_000_000 c.args.cfg.now.quiet c.requires.quiet (lit< tt),
      read_between 1 1_000_000 c.args.cfg.now.holdoff c.requires.holdoff (lit< tt),
    )
