-- The steps are the ones that are kept.
use Rattle.std.proofs.lemmas.Result.{IfOk-weaker}
use Rattle.wrp_audit.proofs.audit.AuditedNetwork.write.Goals as goal

pub returns : goal.returns
returns g c =
    IfOk-weaker c.append_steps.result _ _ (λ x wrote s w stands. rw c.deref-2.ensures.value at (wrote s w stands)) c.append_steps.ensures
