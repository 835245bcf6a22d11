-- What holds with a chain.
use Rattle.wrp_servo.proofs.Locked.{chain_stays_held}
use Rattle.wrp_servo.proofs.laws.chain_is_held.Goals as goal

pub returns : goal.returns
returns c = chain_stays_held
