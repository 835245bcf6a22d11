use Rattle.std.proofs.Common.{ap, ◌∙◌}
use Rattle.wrp_servo.specs.declared.machine.Core.{Core}
use Rattle.wrp_servo.specs.Sampling.{good}
use Rattle.wrp_servo.proofs.machine.Core.use_tag.Goals as goal

pub returns-clause-state : goal.returns-clause-state
returns-clause-state c = c.good.ensures.state ∙ ap (λ (v : Core). good v c.args.n) c.take.ensures.value
