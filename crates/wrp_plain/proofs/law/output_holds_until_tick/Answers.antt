-- By what the records of an input write.
use Rattle.wrp_plain.proofs.SaidOutput.{output_holds_until_tick_holds}
use Rattle.wrp_plain.proofs.law.output_holds_until_tick.Goals as goal

pub returns : goal.returns
returns c = output_holds_until_tick_holds
