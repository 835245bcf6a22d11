-- The input goes in front of the earlier ones.
use Rattle.wrp_port.proofs.LineLaws.{Adds-after}
use Rattle.wrp_port.proofs.port.Port.step_into.Goals as goal

pub returns-clause-stands : goal.returns-clause-stands
returns-clause-stands c =
    Adds-after c.args.self.now c.take-answer.new.self c.args.input c.take-answer.ensures.set c.take-answer.ensures.line c.take-answer.ensures.exchange
