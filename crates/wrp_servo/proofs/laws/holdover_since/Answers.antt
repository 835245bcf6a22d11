-- HOLDOVER, looking back.
use Rattle.wrp_servo.proofs.HoldoverLaws.{holdover_stands_since}
use Rattle.wrp_servo.proofs.laws.holdover_since.Goals as goal

pub returns : goal.returns
returns c = holdover_stands_since
