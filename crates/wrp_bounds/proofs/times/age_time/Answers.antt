-- The number of ticks is read as it is.
use Rattle.std.proofs.Common.{lit<}
use Rattle.wrp_bounds.proofs.Counts.{read_between}
use Rattle.wrp_bounds.proofs.times.age_time.Goals as goal

pub returns-clause-value : goal.returns-clause-value
returns-clause-value c = cc (read_between 1 1_000_000 c.args.cfg.now.age c.requires.age (lit< tt))
