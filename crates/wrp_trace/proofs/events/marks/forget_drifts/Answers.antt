-- After the last place none is marked.
use Rattle.std.proofs.Common.{◌∙◌, false, ap, length, refl, arith}
use Rattle.std.proofs.lemmas.List.{length-set}
use Rattle.wrp_trace.proofs.PlaceLemmas.{drifts_again, drifts_stay, none_at_all, none_more}
use Rattle.wrp_trace.proofs.events.marks.forget_drifts.Goals as goal

pub loop-n-init : goal.loop-n-init
loop-n-init c = (refl, refl, c.requires.rest, tt, drifts_stay c.args.event.now)

pub loop-n-preserved : goal.loop-n-preserved
loop-n-preserved c = (
  ap length c.forget_drift.ensures.marks ∙ length-set c.loop-n.marks.items c.loop-n.n false ∙ c.loop-n.invariant.0,
  c.forget_drift.ensures.drifts ∙ c.loop-n.invariant.1,
  c.forget_drift.ensures.rest,
  none_more c.loop-n.marks.items c.forget_drift.new.marks.items c.loop-n.n c.forget_drift.ensures.marks c.loop-n.invariant.3,
  drifts_again _ _ _ c.loop-n.invariant.4 c.forget_drift.ensures.only,
)

pub returns-clause-none : goal.returns-clause-none
returns-clause-none c = none_at_all c.loop-n.marks.items c.loop-n.n (omega arith) c.loop-n.invariant.3
