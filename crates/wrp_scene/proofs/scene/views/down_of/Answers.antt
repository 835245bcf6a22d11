-- The way down has its share of both.
use Rattle.std.proofs.Common.{arith}
use Rattle.std.proofs.lemmas.Int.{to_z-of_z}
use Rattle.wrp_scene.proofs.FibreDelays.{down_range}
use Rattle.wrp_scene.proofs.scene.views.down_of.Goals as goal

is_value : goal.returns-clause-value
is_value c = grind (arith, to_z-of_z)

pub returns-clause-value : goal.returns-clause-value
returns-clause-value c = is_value c

pub returns-clause-range : goal.returns-clause-range
returns-clause-range c = rw (is_value c) (down_range c.args.kappa c.args.both_ways c.requires.kappa)
