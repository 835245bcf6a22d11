use Rattle.std.proofs.Common.{rules, subst, sym, to_z, of_z, ◌≡◌}
use Rattle.std.specs.Int.{w128}
use Rattle.wrp_flights.specs.Ages.{TookOld}
use Rattle.wrp_flights.proofs.Passing.{Passing, step, all_out}
use Rattle.wrp_flights.proofs.ages.expire.Goals as goal

pub loop-number-preserved : goal.loop-number-preserved
loop-number-preserved c =
    let h : to_z w128 (of_z w128 c.args.horizon) ≡ c.args.horizon = search rules in
    subst (λ x. Passing x c.args.kept.now.entries c.args.ages.now.keys c.forget_landed.new.kept.entries c.take_old.new.ages.keys) (sym h)
    (step c.args.horizon c.args.kept.now.entries c.args.ages.now.keys c.loop-number.kept.entries c.loop-number.ages.keys c.in-Some.number
    c.forget_landed.new.kept.entries c.take_old.new.ages.keys c.requires.own
    (subst (λ x. Passing x c.args.kept.now.entries c.args.ages.now.keys c.loop-number.kept.entries c.loop-number.ages.keys) h c.loop-number.invariant)
    (subst (λ x. TookOld x c.loop-number.ages.keys c.take_old.new.ages.keys c.in-Some.number) h c.in-Some.ensures) c.forget_landed.ensures)

pub returns-clause-kept : goal.returns-clause-kept
returns-clause-kept c =
    let h : to_z w128 (of_z w128 c.args.horizon) ≡ c.args.horizon = search rules in
    all_out c.args.horizon c.args.kept.now.entries c.args.ages.now.keys c.loop-number.kept.entries c.loop-number.ages.keys
    (subst (λ x. Passing x c.args.kept.now.entries c.args.ages.now.keys c.loop-number.kept.entries c.loop-number.ages.keys) h c.loop-number.invariant) (search rules)
