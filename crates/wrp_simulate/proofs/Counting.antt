-- How many events a simulation has.
use Rattle.std.proofs.Common.{arith}
use Rattle.wrp_simulate.specs.Laws.{EventsAreNumbered}

pub events_are_numbered : EventsAreNumbered
events_are_numbered s seed lines run = (run.simulated.count, λ more. omega (arith, more.number))
