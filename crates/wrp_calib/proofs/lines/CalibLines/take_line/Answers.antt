-- A line says what its parts do.
use Rattle.wrp_calib.proofs.LineLemmas.{takes_line, refuses_line, refuses_other}
use Rattle.wrp_calib.proofs.lines.CalibLines.take_line.Goals as goal

pub returns-in-Some-clause-accepted : goal.returns-in-Some-clause-accepted
returns-in-Some-clause-accepted c =
    takes_line c.args.self.now c.take_fields.new.self c.args.line.now c.in-Some.row.now c.take_fields.result (rw c.in-Some.is at c.requires.split) c.take_fields.ensures.taken

pub returns-in-Some-clause-refused : goal.returns-in-Some-clause-refused
returns-in-Some-clause-refused c =
    refuses_line c.args.self.now c.take_fields.new.self c.args.line.now c.in-Some.row.now c.take_fields.result (rw c.in-Some.is at c.requires.split) c.take_fields.ensures.taken

pub returns-in-None-clause-refused : goal.returns-in-None-clause-refused
returns-in-None-clause-refused c = refuses_other c.args.self.now c.args.line.now (rw c.in-None.is at c.requires.split)
