-- After the last place none is marked.
use Rattle.std.proofs.Common.{◌∙◌, false, ap, length, refl, arith}
use Rattle.std.proofs.lemmas.List.{length-set}
use Rattle.wrp_trace.proofs.PlaceLemmas.{moves_again, moves_stay, none_at_all, none_more}
use Rattle.wrp_trace.proofs.events.marks.forget_moves.Goals as goal

pub loop-l-init : goal.loop-l-init
loop-l-init c = (refl, refl, c.requires.rest, tt, moves_stay c.args.event.now)

pub loop-l-preserved : goal.loop-l-preserved
loop-l-preserved c = (
  ap length c.forget_move.ensures.marks ∙ length-set c.loop-l.marks.items c.loop-l.l false ∙ c.loop-l.invariant.0,
  c.forget_move.ensures.moves ∙ c.loop-l.invariant.1,
  c.forget_move.ensures.rest,
  none_more c.loop-l.marks.items c.forget_move.new.marks.items c.loop-l.l c.forget_move.ensures.marks c.loop-l.invariant.3,
  moves_again _ _ _ c.loop-l.invariant.4 c.forget_move.ensures.only,
)

pub returns-clause-none : goal.returns-clause-none
returns-clause-none c = none_at_all c.loop-l.marks.items c.loop-l.l (omega arith) c.loop-l.invariant.3
