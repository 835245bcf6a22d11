-- The sample goes in front of the inputs before; its phase is a number of 64 bits.
use Rattle.std.proofs.Common.{subst, ℤ}
use Rattle.std.proofs.lemmas.Int.{to_z-of_z}
use Rattle.std.specs.Int.{w64}
use Rattle.wrp_exch.specs.Exchange.{StandsFor as ExchangeStandsFor}
use Rattle.wrp_port.proofs.LineLaws.{Adds-after}
use Rattle.wrp_port.proofs.port.Port.take_sample.Goals as goal
use Rattle.wrp_port.specs.declared.interface.PortIn.TheVariants.{Sample}
use Rattle.wrp_port.specs.Outputs.{with_call, sample_call}

pub returns-clause-stands : goal.returns-clause-stands
returns-clause-stands c =
    Adds-after c.args.self.now c.sample.new.self (Sample c.args.n c.args.u) c.sample.ensures.set c.sample.ensures.line
    (λ calls h. subst (λ (z : ℤ). ExchangeStandsFor c.args.self.now.set.ring c.sample.new.self.exchange (with_call (sample_call c.args.self.now.set.ds.role c.args.n z) calls))
    (to_z-of_z w64 c.args.u c.ranges.u) (c.sample.ensures.exchange calls h))
