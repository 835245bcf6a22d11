-- The tag goes in front of the earlier ones.
use Rattle.std.proofs.Common.{rules}
use Rattle.wrp_phase.proofs.UnwrapLaws.{Adds-pushed}
use Rattle.wrp_phase.proofs.unwrap.Unwrap.push.Goals as goal

pub returns-clause-value : goal.returns-clause-value
returns-clause-value c = search rules

pub returns-clause-stands : goal.returns-clause-stands
returns-clause-stands c = Adds-pushed _ _ _ (returns-clause-value c)
