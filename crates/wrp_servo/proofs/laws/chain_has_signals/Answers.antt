-- What was last given, with a chain.
use Rattle.wrp_servo.proofs.ChainSignals.{chain_keeps_signals}
use Rattle.wrp_servo.proofs.laws.chain_has_signals.Goals as goal

pub returns : goal.returns
returns c = chain_keeps_signals
