-- The first check that fails among the remaining clocks is the first among all.
use Rattle.std.proofs.Common.{◌≡◌, map, drop}
use Rattle.wrp_course.specs.Checks.{told_of}
use Rattle.wrp_course.specs.Premises.{late_by}
use Rattle.wrp_premises.proofs.premises.ticks.ticks_late.Given as goal

abbrev pub invariant-loop-clock : goal.invariant-loop-clock
invariant-loop-clock l =
    told_of (map (late_by l.fn.most l.fn.after) (drop l.clock-index l.fn.clocks)) ≡ told_of (map (late_by l.fn.most l.fn.after) l.fn.clocks)
