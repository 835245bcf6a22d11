-- The law.
use Rattle.wrp_plain.proofs.LinesTrue.{records_tell_truth_holds}
use Rattle.wrp_plain.proofs.law.records_tell_truth.Goals as goal

pub returns : goal.returns
returns c = records_tell_truth_holds
