-- By the place of the first LF.
use Rattle.std.proofs.Common.{sym}
use Rattle.wrp_records.proofs.Feeds.{none_anywhere, size_plain, size_found}
use Rattle.wrp_records.proofs.engine.size_of_line.Goals as goal

pub returns-in-Some : goal.returns-in-Some
returns-in-Some c = size_found c.args.line.now c.in-Some.at (sym c.in-Some.ensures)

pub returns-in-None : goal.returns-in-None
returns-in-None c = sym (size_plain c.args.line.now (none_anywhere c.args.line.now (sym c.in-None.ensures)))
