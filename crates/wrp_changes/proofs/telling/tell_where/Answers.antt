use Rattle.wrp_changes.proofs.QuietSteps.{loud_ends, quiet_ends}
use Rattle.wrp_changes.proofs.telling.tell_where.Goals as goal

pub returns-then-not-is_quiet : goal.returns-then-not-is_quiet
returns-then-not-is_quiet c =
    loud_ends c.args.news.now c.args.outs.now c.args.plant.now c.tell_ends.new.plant c.tell_ends.ensures.same c.tell_ends.ensures.spans c.tell_ends.ensures.room c.requires.room

pub returns-else-not-is_quiet : goal.returns-else-not-is_quiet
returns-else-not-is_quiet c = quiet_ends c.args.news.now c.args.outs.now c.args.plant.now (c.is_quiet.ensures c.if-not-is_quiet.false)
