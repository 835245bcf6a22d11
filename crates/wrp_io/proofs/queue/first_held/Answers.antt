-- The first frame that is held for the end is the one that the search finds.
use Rattle.std.proofs.Common.{◌∙◌, Some, slice_get, ap, sym, rules}
use Rattle.wrp_io.proofs.QueueLemmas.{none_held, first_held}
use Rattle.wrp_io.proofs.queue.first_held.Goals as goal

pub returns-in_err-at : goal.returns-in_err-at
returns-in_err-at c =
    let none = none_held c.args.end c.args.queue.now (search rules) in
    search (rules, none)

pub returns : goal.returns
returns c =
    let first = first_held c.args.end c.args.queue.now c.in_ok-at.at c.index-queue-at.result (search rules) c.index-queue-at.is in
    ap Some (c.copy_of.ensures ∙ c.deref.ensures.0 ∙ ap (λ held. held.frame.items) (sym c.index-queue-at.is)) ∙ ap (λ held. slice_get held 0) (sym first.0)
