use Rattle.std.proofs.Common.{◌+◌, option_map, sym, ap, ◌∙◌}
use Rattle.wrp_network_text.proofs.TreeLaws.{depth_root, depth_over, depth_next}
use Rattle.wrp_network_text.proofs.tree.+depth_within.Goals as goal

pub returns-in-None-clause-value : goal.returns-in-None-clause-value
returns-in-None-clause-value m c = sym (depth_root c.args.most c.args.cfg.now c.args.n (sym c.in-None.ensures))

pub returns-then-most-eq0-clause-value : goal.returns-then-most-eq0-clause-value
returns-then-most-eq0-clause-value m c =
    sym (depth_over c.args.most c.args.cfg.now c.args.n c.in-Some.link.now (sym c.in-Some.ensures) c.if-most-eq0.true)

pub returns-else-most-eq0-clause-value : goal.returns-else-most-eq0-clause-value
returns-else-most-eq0-clause-value m c =
    c.one_more.ensures ∙ ap (option_map (λ depth. depth + 1)) c.depth_within.ensures.value
    ∙ sym (depth_next c.args.most c.args.cfg.now c.args.n c.in-Some.link.now (sym c.in-Some.ensures) c.if-most-eq0.false)
