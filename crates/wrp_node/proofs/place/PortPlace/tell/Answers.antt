-- Each call gives the input of its kind.
use Rattle.std.proofs.Common.{sym, subst}
use Rattle.wrp_node.specs.Place.{Gives}
use Rattle.wrp_node.proofs.place.PortPlace.tell.Goals as goal
use Rattle.wrp_port.specs.declared.interface.PortIn.{PortIn}

pub returns-in-Tick : goal.returns-in-Tick
returns-in-Tick c = subst (λ (x : PortIn). Gives x c.args.self.now c.tick.new.self) (sym c.in-Tick.is) c.tick.ensures

pub returns-in-Lease : goal.returns-in-Lease
returns-in-Lease c = subst (λ (x : PortIn). Gives x c.args.self.now c.turn_lease.new.self) (sym c.in-Lease.is) c.turn_lease.ensures
