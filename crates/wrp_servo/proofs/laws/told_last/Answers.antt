-- What was last given.
use Rattle.wrp_servo.proofs.ToldLaws.{last_told}
use Rattle.wrp_servo.proofs.laws.told_last.Goals as goal

pub returns : goal.returns
returns c = last_told
