use Rattle.std.proofs.Common.{refl, rules, subst, IsSome}
use Rattle.wrp_flights.proofs.Oldest.{none_old, none_there}
use Rattle.wrp_flights.proofs.ages.take_old.Goals.{in-Some, in-None}
use Rattle.wrp_flights.proofs.ages.take_old.Goals as goal

pub returns-then-not-is_old : goal.returns-then-not-is_old
returns-then-not-is_old c = elim c.match-first.branch [
  | in-Some w ↦ (none_old c.args.ages.now.keys w.in-Some.oldest.now c.args.horizon (search rules) (search rules), refl)
  | in-None w ↦ (none_there c.args.ages.now.keys c.args.horizon (λ p. let no = subst IsSome w.in-None.is (c.first.ensures.variant.1 p) in absurd cc), refl)
]
