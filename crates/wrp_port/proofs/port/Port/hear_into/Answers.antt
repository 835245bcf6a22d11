-- The message goes in front of the inputs before.
use Rattle.wrp_port.proofs.LineLaws.{Adds-after}
use Rattle.wrp_port.proofs.port.Port.hear_into.Goals as goal
use Rattle.wrp_port.specs.declared.interface.PortIn.TheVariants.{Msg}

pub returns-clause-stands : goal.returns-clause-stands
returns-clause-stands c =
    Adds-after c.args.self.now c.hear-answer.new.self (Msg c.args.message.now c.args.stamp c.args.tick)
    c.hear-answer.ensures.set c.hear-answer.ensures.line c.hear-answer.ensures.exchange
