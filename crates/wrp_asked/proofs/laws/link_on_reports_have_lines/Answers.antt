-- By the lines of an event, one by one.
use Rattle.wrp_asked.proofs.ReportLines.{link_on_reports_have_lines}
use Rattle.wrp_asked.proofs.laws.link_on_reports_have_lines.Goals as goal

pub returns : goal.returns
returns c = link_on_reports_have_lines
