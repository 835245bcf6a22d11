use Rattle.std.proofs.Common.{reverse, subst}
use Rattle.wrp_check.specs.Judged.{Judges}
use Rattle.wrp_check.proofs.OneVerdict.{one_verdict}
use Rattle.wrp_check.proofs.judging.judge.Goals as goal

pub returns : goal.returns
returns c =
    λ verdict. (
      λ e. subst (λ v. Judges c.args.role (reverse c.args.own.now) (reverse c.args.peer.now) v) e c.judgement.ensures,
      λ due. one_verdict _ _ _ _ _ c.judgement.ensures due,
    )
