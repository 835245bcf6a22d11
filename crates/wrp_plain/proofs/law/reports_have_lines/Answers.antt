-- By the lines of an event, one by one.
use Rattle.wrp_plain.proofs.ReportLines.{reports_have_lines_holds}
use Rattle.wrp_plain.proofs.law.reports_have_lines.Goals as goal

pub returns : goal.returns
returns c = reports_have_lines_holds
