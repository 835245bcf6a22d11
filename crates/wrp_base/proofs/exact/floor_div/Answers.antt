-- The value is the quotient rounded down, and the two inequalities are its laws.
use Rattle.std.proofs.Common.{◌≡◌, to_z, of_z, rules}
use Rattle.std.specs.Int.{w128}
use Rattle.wrp_base.specs.Division.{floor_quotient}
use Rattle.wrp_base.proofs.DivisionLaws.{floor_quotient-at_most, floor_quotient-next}
use Rattle.wrp_base.proofs.exact.floor_div.Goals as goal

pub returns-clause-at_most : goal.returns-clause-at_most
returns-clause-at_most c =
    let value : to_z w128 (of_z w128 c.div_euclid.result) ≡ floor_quotient c.args.a c.args.b = search rules in
    rw value (floor_quotient-at_most c.args.a c.args.b c.requires)

pub returns-clause-next : goal.returns-clause-next
returns-clause-next c =
    let value : to_z w128 (of_z w128 c.div_euclid.result) ≡ floor_quotient c.args.a c.args.b = search rules in
    rw value (floor_quotient-next c.args.a c.args.b c.requires)
