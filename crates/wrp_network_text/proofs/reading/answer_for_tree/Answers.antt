use Rattle.std.proofs.Common.{sym, refl, ◌∙◌}
use Rattle.std.specs.List.{find}
use Rattle.toml.specs.View.{table_view}
use Rattle.wrp_bounds.specs.Inequalities.{is_broken, inequalities}
use Rattle.wrp_caldb.specs.declared.keys.Others.TheVariants.{Ignored}
use Rattle.wrp_network_text.proofs.Accepted.{read_accepted, ranges, tree}
use Rattle.wrp_network_text.proofs.Refused.{clash_answer, none_broken}
use Rattle.wrp_network_text.proofs.Taken.{lists_accepted}
use Rattle.wrp_network_text.proofs.reading.answer_for_tree.Goals as goal

pub check-requires-clause-ranges : goal.check-requires-clause-ranges
check-requires-clause-ranges c = ranges (table_view c.args.doc.now) c.args.cfg c.requires.taken c.requires.network

pub check-requires-clause-tree : goal.check-requires-clause-tree
check-requires-clause-tree c = tree (table_view c.args.doc.now) c.args.cfg c.requires.taken c.requires.network c.requires.tree

pub of_lists-requires : goal.of_lists-requires
of_lists-requires c =
    (Ignored, table_view c.args.doc.now, lists_accepted (table_view c.args.doc.now) c.requires.taken, c.requires.lists)

pub returns-in-Ok-clause-value : goal.returns-in-Ok-clause-value
returns-in-Ok-clause-value c =
    let kept = none_broken (find is_broken (inequalities c.args.cfg)) (sym c.in-Ok.is ∙ c.check.ensures.value) in
    (c.requires.taken, c.requires.network, c.of_lists.ensures ∙ c.requires.lists, c.requires.tree, kept)

pub returns-in-Ok-clause-accepted : goal.returns-in-Ok-clause-accepted
returns-in-Ok-clause-accepted c =
    let keeps = c.in-Ok.ensures.kept.0 refl in
    rw (c.of_lists.ensures ∙ c.requires.lists) (read_accepted (table_view c.args.doc.now) c.args.cfg c.requires.taken c.requires.network c.requires.tree keeps)

pub returns-in-Err-clause-value : goal.returns-in-Err-clause-value
returns-in-Err-clause-value c =
    clash_answer (table_view c.args.doc.now) c.args.cfg c.in-Err.clash c.clash_fault.result
    c.requires.taken c.requires.network c.requires.tree (sym c.check.ensures.value ∙ c.in-Err.is) c.clash_fault.ensures
