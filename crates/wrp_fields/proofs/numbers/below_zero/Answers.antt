-- The opposite of a number that was cut is kept as the opposite of the number.
use Rattle.std.proofs.Common.{rules}
use Rattle.wrp_fields.specs.Numbers.{digits_of}
use Rattle.wrp_fields.proofs.HeldNumbers.{opposite_kept}
use Rattle.wrp_fields.proofs.numbers.below_zero.Goals as goal

pub returns-clause-value : goal.returns-clause-value
returns-clause-value c =
    let kept = opposite_kept c.args.least c.args.greatest (digits_of c.args.digits.now) c.in_ok-size.field-0 c.requires.least (search rules) in
    search (rules, kept)
