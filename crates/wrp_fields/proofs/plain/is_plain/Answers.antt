-- The two tests of a line agree.
use Rattle.wrp_fields.proofs.PlainLemmas.{same_test}
use Rattle.wrp_fields.proofs.plain.is_plain.Goals as goal

pub returns-clause-value : goal.returns-clause-value
returns-clause-value c = same_test c.args.line.now c.is_line.result c.is_line.ensures
