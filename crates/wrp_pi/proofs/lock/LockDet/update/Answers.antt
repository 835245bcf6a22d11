-- The error goes in front of the earlier ones.
use Rattle.std.proofs.Common.{◌<◌, rules, arith, subst}
use Rattle.wrp_pi.specs.Lock.{Detector}
use Rattle.wrp_pi.proofs.LockLaws.{Adds-updated}
use Rattle.wrp_pi.proofs.lock.LockDet.update.Goals as goal

pub returns-clause-value : goal.returns-clause-value
returns-clause-value c = search rules

pub returns-clause-stands : goal.returns-clause-stands
returns-clause-stands c =
    let P : Detector → Type 0 = λ d. 0 < d.limits.lock in
    Adds-updated _ _ _ (subst P c.self.view_is (omega arith)) (returns-clause-value c)
