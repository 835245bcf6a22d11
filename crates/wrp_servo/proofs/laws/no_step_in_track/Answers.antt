-- Outputs without a step.
use Rattle.wrp_servo.proofs.StepLaws.{no_step}
use Rattle.wrp_servo.proofs.laws.no_step_in_track.Goals as goal

pub returns : goal.returns
returns c = no_step
