-- What the search found is the first frame that is held for the end.
use Rattle.std.proofs.Common.{rules}
use Rattle.wrp_io.proofs.QueueLemmas.{none_held, first_held}
use Rattle.wrp_io.proofs.queue.take_first.Goals as goal

pub returns-in_err-at-clause-first : goal.returns-in_err-at-clause-first
returns-in_err-at-clause-first c = let none = none_held c.args.end c.args.queue.now.items (search rules) in search (rules, none)

pub returns-clause-first : goal.returns-clause-first
returns-clause-first c = let first = first_held c.args.end c.args.queue.now.items c.in_ok-at.at c.remove-frame.result (search rules) c.remove-frame.ensures.value in rw c.remove-frame.ensures.items first
