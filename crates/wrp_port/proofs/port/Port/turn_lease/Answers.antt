-- The turn of the lease goes in front of the inputs before.
use Rattle.std.proofs.Common.{ap, sym, subst}
use Rattle.wrp_exch.specs.Exchange.{StandsFor as ExchangeStandsFor}
use Rattle.wrp_port.proofs.LineLaws.{Adds-after}
use Rattle.wrp_port.proofs.port.Port.turn_lease.Goals as goal
use Rattle.wrp_port.specs.declared.interface.PortIn.TheVariants.{Lease}

pub returns-clause-stands : goal.returns-clause-stands
returns-clause-stands c =
    Adds-after c.args.self.now c.lease_turn.new.self Lease (ap (λ p. p.set) c.lease_turn.ensures) (ap (λ p. p.line) c.lease_turn.ensures)
    (λ calls h. subst (λ e. ExchangeStandsFor c.args.self.now.set.ring e calls) (sym (ap (λ p. p.exchange) c.lease_turn.ensures)) h)
