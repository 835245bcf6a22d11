-- The first check that fails among the remaining bits is the first among all.
use Rattle.std.proofs.Common.{◌≡◌, ◌-◌, map}
use Rattle.wrp_course.specs.Checks.{told_of}
use Rattle.wrp_course.specs.Premises.{bit_check}
use Rattle.wrp_course.specs.Setting.{from_on}
use Rattle.wrp_premises.proofs.premises.beat.first_wrong.Given as goal

abbrev pub invariant-loop-i : goal.invariant-loop-i
invariant-loop-i l =
    told_of (map (bit_check l.fn.steps l.fn.beat l.fn.bits) (from_on (64 - l.i) l.i)) ≡ told_of (map (bit_check l.fn.steps l.fn.beat l.fn.bits) (from_on 64 0))
