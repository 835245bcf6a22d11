-- A line says what its parts say.
use Rattle.std.proofs.Common.{◌∙◌, sym}
use Rattle.wrp_l1sync.specs.LineReading.{limits_of}
use Rattle.wrp_records.proofs.LineParts.{read_none, read_parts}
use Rattle.wrp_l1sync.proofs.lines.reading.read_limits.Goals as goal

pub returns-in-Some-clause-value : goal.returns-in-Some-clause-value
returns-in-Some-clause-value c = c.limits_of.ensures.value ∙ sym (read_parts limits_of c.args.line.now c.in-Some.row.now (rw c.in-Some.is at c.requires))

pub returns-in-None-clause-value : goal.returns-in-None-clause-value
returns-in-None-clause-value c = sym (read_none limits_of c.args.line.now (rw c.in-None.is at c.requires))
