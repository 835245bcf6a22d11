-- The numbers of the network are read as they are.
use Rattle.std.proofs.Common.{lit<}
use Rattle.wrp_bounds.specs.Inequalities.{holdover_time}
use Rattle.wrp_bounds.proofs.Counts.{read_between}
use Rattle.wrp_bounds.proofs.inequalities.holdover_time.Goals as goal

pub returns : goal.returns
unfolding holdover_time
returns c =
    cc (
      read_between 2 1_000_000 c.args.cfg.now.holdover c.requires.holdover (lit< tt),
      read_between 1 1_000_000 c.args.cfg.now.lease c.requires.lease (lit< tt),
    )
