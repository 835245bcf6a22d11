-- The worked rows, by computing.
use Rattle.std.proofs.Common.{refl}
use Rattle.wrp_course.specs.Rows.{WorkedRows}

pub worked_rows : WorkedRows
worked_rows = record {
  down = refl;
  late = refl;
  early = refl;
  accepted = refl;
  upper_quiet = refl;
  lower_quiet = refl;
  inputs = refl;
}
