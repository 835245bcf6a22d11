-- By each answer of the four intervals.
use Rattle.wrp_calib.proofs.Tightness.{intervals_are_tight}
use Rattle.wrp_calib.proofs.laws.intervals_are_tight.Goals as goal

pub returns : goal.returns
returns c = intervals_are_tight
