-- The law of tables, at its lemma.
use Rattle.wrp_law.proofs.Tables.{table_value-never_falls}
use Rattle.wrp_law.proofs.table.table_never_falls.Goals as goal

pub returns : goal.returns
returns c = table_value-never_falls
