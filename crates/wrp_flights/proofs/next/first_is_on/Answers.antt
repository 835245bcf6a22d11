use Rattle.std.proofs.Common.{rules, sym}
use Rattle.wrp_flights.proofs.FirstDue.{first_told}
use Rattle.wrp_flights.proofs.next.first_is_on.Goals as goal

pub returns-in-Some-clause-first : goal.returns-in-Some-clause-first
returns-in-Some-clause-first c =
    first_told c.args.kept.now.entries c.args.dues.now.keys c.in-Some.first.now c.is_on_at.result (search rules) (search rules) (sym c.is_on_at.ensures)
