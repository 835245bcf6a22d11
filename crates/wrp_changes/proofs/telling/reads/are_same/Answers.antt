use Rattle.std.proofs.Common.{arith}
use Rattle.std.proofs.lemmas.Option.{slice_get_within}
use Rattle.wrp_changes.proofs.QuietSteps.{same_states}
use Rattle.wrp_changes.proofs.telling.reads.are_same.Goals as goal

pub returns : goal.returns
returns c e p =
    same_states p c.args.before.now c.args.after.now c.if-before-after.false
    (λ i x y f g. c.loop-i.invariant i x y (omega (arith, slice_get_within c.args.before.now i x f)) f g)
