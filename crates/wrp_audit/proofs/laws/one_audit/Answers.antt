-- The same lines are one run.
use Rattle.wrp_audit.proofs.OneAudit.{one_audit}
use Rattle.wrp_audit.proofs.laws.one_audit.Goals as goal

pub returns : goal.returns
returns c = one_audit c.told_last.ensures
