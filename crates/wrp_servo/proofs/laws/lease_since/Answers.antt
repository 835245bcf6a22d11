-- The lease, looking back.
use Rattle.wrp_servo.proofs.LeaseLaws.{lease_is_fresh_since}
use Rattle.wrp_servo.proofs.laws.lease_since.Goals as goal

pub returns : goal.returns
returns c = lease_is_fresh_since
