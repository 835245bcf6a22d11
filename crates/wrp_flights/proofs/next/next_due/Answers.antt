use Rattle.std.proofs.Common.{◌≡◌, rules, subst, to_z, of_z, Some, IsSome}
use Rattle.std.specs.Int.{w128}
use Rattle.wrp_flights.specs.Next.{IsFirst}
use Rattle.wrp_flights.proofs.FirstDue.{first_due, none_due}
use Rattle.wrp_flights.proofs.next.next_due.Goals as goal

pub returns-in-Some : goal.returns-in-Some
returns-in-Some c = λ sent kept s.
    let h : c.in-Some.first.now.0 ≡ to_z w128 (of_z w128 c.in-Some.first.now.0) = search rules in
    subst (λ t. IsFirst kept (Some (c.in-Some.first.now.1, t))) h (first_due sent kept c.args.dues.now.keys c.in-Some.first.now s (search rules) (search rules))

pub returns-in-None : goal.returns-in-None
returns-in-None c = λ sent kept s.
    none_due sent kept c.args.dues.now.keys s (λ p. let no = subst IsSome c.in-None.is (c.first.ensures.variant.1 p) in absurd cc)
