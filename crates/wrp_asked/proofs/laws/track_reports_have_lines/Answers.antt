-- By the lines of an event, one by one.
use Rattle.wrp_asked.proofs.ReportLines.{track_reports_have_lines}
use Rattle.wrp_asked.proofs.laws.track_reports_have_lines.Goals as goal

pub returns : goal.returns
returns c = track_reports_have_lines
