-- Each turn has one word fewer.
use Rattle.std.proofs.Common.{length}
use Rattle.wrp_records.proofs.words.+append_on.Given as goal

abbrev pub decreases-append_on : goal.decreases-append_on
decreases-append_on l = length l.words.now
