-- The law.
use Rattle.wrp_plain.proofs.OutputTrue.{output_tells_truth_holds}
use Rattle.wrp_plain.proofs.law.output_tells_truth.Goals as goal

pub returns : goal.returns
returns c = output_tells_truth_holds
