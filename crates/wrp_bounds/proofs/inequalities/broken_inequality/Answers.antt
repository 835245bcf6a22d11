-- The parts are tried in the order of their numbers.
use Rattle.wrp_bounds.proofs.FirstBroken.{first_in_parts}
use Rattle.wrp_bounds.proofs.inequalities.broken_inequality.Goals as goal

pub returns : goal.returns
returns c = cc (first_in_parts c.args.cfg.now)
