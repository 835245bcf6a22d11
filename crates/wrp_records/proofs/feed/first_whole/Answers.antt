-- By the place of the first LF.
use Rattle.std.proofs.Common.{sym}
use Rattle.wrp_records.proofs.Feeds.{none_anywhere, whole_at}
use Rattle.wrp_records.proofs.feed.first_whole.Goals as goal

pub returns-in-Some : goal.returns-in-Some
returns-in-Some c = whole_at c.args.octets.now c.in-Some.at (sym c.in-Some.ensures)

pub returns-in-None : goal.returns-in-None
returns-in-None c = none_anywhere c.args.octets.now (sym c.in-None.ensures)
