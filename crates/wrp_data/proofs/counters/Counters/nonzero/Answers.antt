use Rattle.std.proofs.Common.{length, ap, ◌∙◌, lit<, arith}
use Rattle.wrp_data.proofs.NonzeroCounts.{none_before, few_before, before-yes, before-no, all_before}
use Rattle.wrp_data.proofs.counters.Counters.nonzero.Goals.{then-times-gt0, else-times-gt0}
use Rattle.wrp_data.proofs.counters.Counters.nonzero.Goals as goal

pub loop-reason-init : goal.loop-reason-init
loop-reason-init c = none_before _ _ c.new-counts.ensures

pub push-requires : goal.push-requires
push-requires c =
    (lit< tt, omega (arith, ap length c.loop-reason.invariant, few_before c.args.self.now c.loop-reason.reason-index c.loop-reason-test.true))

pub loop-reason-preserved : goal.loop-reason-preserved
loop-reason-preserved c =
    elim c.if-times-gt0.branch [
      | then-times-gt0 w ↦ ap (λ v. v.items) w.counts-is ∙ w.push.ensures.items ∙ before-yes _ _ _ _ _ c.loop-reason.invariant c.loop-reason-test.true c.number.ensures.value c.get-times.ensures w.if-times-gt0.true
      | else-times-gt0 w ↦ ap (λ v. v.items) w.counts-is ∙ before-no _ _ _ _ _ c.loop-reason.invariant c.loop-reason-test.true c.number.ensures.value c.get-times.ensures w.if-times-gt0.false
    ]

pub returns : goal.returns
returns c = c.loop-reason.invariant ∙ all_before _ _ c.loop-reason-test.false
