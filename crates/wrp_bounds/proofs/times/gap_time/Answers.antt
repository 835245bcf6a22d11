-- The number of ticks is read as it is.
use Rattle.std.proofs.Common.{lit<}
use Rattle.wrp_bounds.proofs.Counts.{read_between}
use Rattle.wrp_bounds.proofs.times.gap_time.Goals as goal

pub returns-clause-value : goal.returns-clause-value
returns-clause-value c = cc (read_between 1 100 c.args.cfg.now.gap c.requires.gap (lit< tt))
