use Rattle.std.proofs.Common.{subst, IsSome}
use Rattle.wrp_flights.proofs.FirstDue.{took}
use Rattle.wrp_flights.proofs.next.take_first.Goals as goal

pub returns-in-Some : goal.returns-in-Some
returns-in-Some c =
    took c.args.kept.now.entries c.args.dues.now.keys c.pop_first.new.self.keys c.in-Some.first c.requires.first
    c.in-Some.ensures.member c.in-Some.ensures.least c.in-Some.ensures.updates.0 c.in-Some.ensures.removal

pub returns-in-None : goal.returns-in-None
returns-in-None c = let no = subst IsSome c.in-None.is (c.pop_first.ensures.variant.1 c.requires.some) in absurd cc
