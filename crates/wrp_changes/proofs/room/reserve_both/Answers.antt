use Rattle.wrp_changes.proofs.room.reserve_both.Goals as goal

pub returns-in_err-reserve_end-clause-kept : goal.returns-in_err-reserve_end-clause-kept
returns-in_err-reserve_end-clause-kept c k h = record { master = c.reserve_end.ensures.kept k h.master; slave = h.slave }

pub returns-in_err-reserve_end-2-clause-kept : goal.returns-in_err-reserve_end-2-clause-kept
returns-in_err-reserve_end-2-clause-kept c k h =
    record { master = c.reserve_end.ensures.kept k h.master; slave = c.reserve_end-2.ensures.kept k h.slave }

pub returns-clause-kept : goal.returns-clause-kept
returns-clause-kept c k h = record { master = c.reserve_end.ensures.kept k h.master; slave = c.reserve_end-2.ensures.kept k h.slave }
