-- The chain, looking back.
use Rattle.wrp_servo.proofs.BothLaws.{chain_stands_since}
use Rattle.wrp_servo.proofs.laws.chain_since.Goals as goal

pub returns : goal.returns
returns c = chain_stands_since
