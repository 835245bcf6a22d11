-- The phase as a sum.
use Rattle.wrp_servo.proofs.TagLaws.{phase_sums_tags}
use Rattle.wrp_servo.proofs.PhaseLaws.{phase_moves}
use Rattle.wrp_servo.proofs.laws.phase_is_sum.Goals as goal

pub returns-clause-sum : goal.returns-clause-sum
returns-clause-sum c = phase_sums_tags

pub returns-clause-moves : goal.returns-clause-moves
returns-clause-moves c = phase_moves
