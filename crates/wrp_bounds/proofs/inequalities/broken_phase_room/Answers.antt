-- The first node that breaks it is found in file order.
use Rattle.std.proofs.Common.{arith, sym, ◌∙◌}
use Rattle.wrp_bounds.proofs.Rooms.{room_found, room_passed}
use Rattle.wrp_bounds.proofs.inequalities.broken_phase_room.Goals as goal

pub returns-in-Some : goal.returns-in-Some
returns-in-Some c =
    room_found c.args.cfg.now c.loop-n.n c.args.cfg.now.nodes.items _ c.in-Some.room (omega arith) c.loop-n.invariant c.in-Some.ensures

pub loop-n-preserved : goal.loop-n-preserved
loop-n-preserved c =
    room_passed c.args.cfg.now c.loop-n.n c.args.cfg.now.nodes.items _ (omega arith) c.loop-n.invariant
    (sym c.in_default.is ∙ c.broken_phase_room_at.ensures)
