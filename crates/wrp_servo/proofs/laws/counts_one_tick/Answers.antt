-- No call counts more.
use Rattle.wrp_servo.proofs.ToldLaws.{after-ticks}
use Rattle.wrp_servo.proofs.laws.counts_one_tick.Goals as goal

pub returns : goal.returns
returns c = after-ticks
