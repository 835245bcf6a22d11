-- The last good sample, with a chain.
use Rattle.wrp_servo.proofs.ChainGap.{chain_stays_in_gap}
use Rattle.wrp_servo.proofs.laws.chain_keeps_gap.Goals as goal

pub returns : goal.returns
returns c = chain_stays_in_gap
