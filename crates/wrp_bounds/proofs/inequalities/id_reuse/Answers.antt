-- The numbers of the network are read as they are.
use Rattle.std.proofs.Common.{lit<}
use Rattle.wrp_bounds.specs.Inequalities.{id_reuse}
use Rattle.wrp_bounds.proofs.Counts.{read_between}
use Rattle.wrp_bounds.proofs.inequalities.id_reuse.Goals as goal

pub returns : goal.returns
unfolding id_reuse
returns c =
    cc (
      read_between 1 10_000 c.args.cfg.now.sync c.requires.sync (lit< tt),
      read_between 1 10_000 c.args.cfg.now.delay c.requires.delay (lit< tt),
      read_between 1 4_096 c.args.cfg.now.ring c.requires.ring (lit< tt),
    )
