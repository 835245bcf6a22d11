use Rattle.std.proofs.Common.{◌≡◌, drop, find}
use Rattle.wrp_bounds.specs.Inequalities.{is_broken, phase_rooms, phase_rooms_from}
use Rattle.wrp_bounds.proofs.inequalities.broken_phase_room.Given as goal

-- no node so far breaks it
abbrev pub invariant-loop-n : goal.invariant-loop-n
invariant-loop-n l =
    find is_broken (phase_rooms_from l.fn.cfg l.n (drop l.n l.fn.cfg.nodes.items)) ≡ find is_broken (phase_rooms l.fn.cfg)
