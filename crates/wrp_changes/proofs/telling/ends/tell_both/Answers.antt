use Rattle.wrp_changes.proofs.telling.ends.tell_both.Goals as goal

pub returns-clause-room : goal.returns-clause-room
returns-clause-room c k h = record { master = c.tell_where.ensures.room k h.master; slave = c.tell_where-2.ensures.room k h.slave }
