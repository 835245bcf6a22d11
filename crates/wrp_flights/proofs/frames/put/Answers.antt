use Rattle.std.proofs.Common.{rules, ◌+◌}
use Rattle.wrp_flights.proofs.Putting.{not_put_holds, put_holds}
use Rattle.wrp_flights.proofs.frames.put.Goals as goal

pub returns-clause-holds : goal.returns-clause-holds
returns-clause-holds c = λ h s.
    put_holds h c.args.sent.now.items c.args.kept.now.entries c.keep_due.new.kept.entries c.args.ages.now.keys c.keep_due.new.ages.keys c.args.listed.now.items
    c.args.dues.now.keys c.keep_due.new.dues.keys (c.len.result + 1) c.args.frame (search rules) c.requires.on s
    c.in_ok-keep_due.ensures.kept c.in_ok-keep_due.ensures.ages c.in_ok-keep_due.ensures.dues _ _ (search rules) (search rules)

pub returns-in_err-keep_due-clause-holds : goal.returns-in_err-keep_due-clause-holds
returns-in_err-keep_due-clause-holds c = λ h s.
    not_put_holds h c.args.sent.now.items c.args.kept.now.entries c.keep_due.new.kept.entries c.args.ages.now.keys c.keep_due.new.ages.keys c.args.listed.now.items
    c.args.dues.now.keys c.keep_due.new.dues.keys (c.len.result + 1) c.args.frame.sent c.args.frame.due (search rules) s
    c.in_err-keep_due.ensures.old_ages c.in_err-keep_due.ensures.old_dues _ _ (search rules) c.in_err-keep_due.ensures.err (search rules)
