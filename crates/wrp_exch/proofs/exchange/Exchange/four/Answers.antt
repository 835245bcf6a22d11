-- The answer is the four of all the calls: its tick was given, and no later four is older.
use Rattle.std.proofs.Common.{◌≡◌, ◌≤◌, ◌++◌, IfSome, subst, rules}
use Rattle.wrp_exch.specs.Exchange.{four_of}
use Rattle.wrp_exch.specs.Ticks.{NotOlder}
use Rattle.wrp_exch.proofs.Ticks.{four_of-told, four_of-rises}
use Rattle.wrp_exch.proofs.Times.{join_pairs-times}
use Rattle.wrp_exch.proofs.exchange.Exchange.four.Goals as goal

pub returns-clause-rises : goal.returns-clause-rises
returns-clause-rises c ring since calls stands rise =
    let same : four_of ring (since ++ calls) ≡ c.join.result = search rules in
    subst (NotOlder (four_of ring calls)) same (four_of-rises ring since calls rise)

pub returns-clause-told : goal.returns-clause-told
returns-clause-told c ring tick calls stands told =
    let same : four_of ring calls ≡ c.join.result = search rules in
    subst (λ four. IfSome four (λ f. f.tick ≤ tick)) same (four_of-told ring tick calls told)

pub returns-clause-times : goal.returns-clause-times
returns-clause-times c = rw c.join.ensures (join_pairs-times c.self.inside.sync.pair c.self.inside.delay.pair c.self.invariant.0.1 c.self.invariant.1.1)
