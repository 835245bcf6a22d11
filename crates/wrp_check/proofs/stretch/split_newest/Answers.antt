use Rattle.std.proofs.Common.{◌∷◌, ap, sym, ◌∙◌, reverse, take, drop}
use Rattle.wrp_check.specs.Stretches.{stretches_of}
use Rattle.wrp_check.proofs.Splitting.{IsSplit, whole}
use Rattle.wrp_check.proofs.stretch.split_newest.Goals as goal

pub returns-clause-stretches : goal.returns-clause-stretches
returns-clause-stretches c =
    let split : IsSplit c.args.marks.now (take c.loop-i.start c.args.marks.now) (drop c.loop-i.start c.args.marks.now) =
    whole c.args.marks.now c.loop-i.start c.loop-i.i c.requires c.loop-i-test.false c.loop-i.invariant in
    split.stretches ∙ ap (λ ms. reverse ms ∷ stretches_of (reverse (take c.loop-i.start c.args.marks.now))) (sym c.split_at.ensures.back) ∙ ap (λ ms. reverse c.split_at.result.1.now ∷ stretches_of (reverse ms)) (sym c.split_at.ensures.front)
