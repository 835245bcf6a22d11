-- Nothing is marked any longer.
use Rattle.wrp_trace.proofs.PlaceLemmas.{forgot}
use Rattle.wrp_trace.proofs.events.marks.Marks.forget.Goals as goal

pub returns-clause-none : goal.returns-clause-none
returns-clause-none c =
    forgot c.args.cfg.now c.args.self.now c.args.event.now c.forget_drifts.new.event c.forget_moves.new.event c.forget_drifts.new.marks.items c.forget_moves.new.marks.items c.requires.passing
    c.forget_drifts.ensures.none c.forget_drifts.ensures.marks c.forget_drifts.ensures.drifts c.forget_drifts.ensures.only
    c.forget_moves.ensures.none c.forget_moves.ensures.marks c.forget_moves.ensures.moves c.forget_moves.ensures.only
