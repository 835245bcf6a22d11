-- The tick goes in front of the inputs before.
use Rattle.wrp_port.proofs.LineLaws.{Adds-after}
use Rattle.wrp_port.proofs.port.Port.tick_into.Goals as goal
use Rattle.wrp_port.specs.declared.interface.PortIn.TheVariants.{Tick}

pub returns-clause-stands : goal.returns-clause-stands
returns-clause-stands c =
    Adds-after c.args.self.now c.tick.new.self (Tick c.args.locked c.args.certain) c.tick.ensures.set c.tick.ensures.line c.tick.ensures.exchange
