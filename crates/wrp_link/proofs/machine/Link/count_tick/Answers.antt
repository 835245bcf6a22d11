-- The tick goes in front of the inputs before.
use Rattle.wrp_link.specs.declared.interface.LinkIn.TheVariants.{Tick}
use Rattle.wrp_link.proofs.Runs.{stands_after}
use Rattle.wrp_link.proofs.machine.Link.count_tick.Goals as goal

pub returns-clause-stands : goal.returns-clause-stands
returns-clause-stands c locked is = stands_after c.args.self.now c.counts.new.self (Tick locked) (c.counts.ensures.counted locked is)
