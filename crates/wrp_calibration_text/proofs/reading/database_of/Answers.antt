use Rattle.toml.specs.View.{table_view}
use Rattle.wrp_calibration_text.proofs.reading.database_of.Goals as goal

pub of_lists-requires : goal.of_lists-requires
of_lists-requires c = (c.args.others, table_view c.args.doc.now, c.requires, c.in_ok-lists.ensures)
