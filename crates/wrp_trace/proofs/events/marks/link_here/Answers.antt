-- The link has the name, which stands for it.
use Rattle.std.proofs.Common.{◌∙◌, ◌<◌, List, ap, arith, get_or, length, sym}
use Rattle.wrp_network.specs.declared.network.LinkCfg.{LinkCfg}
use Rattle.wrp_caldb.specs.Name.{same_name}
use Rattle.wrp_trace.proofs.PlaceNames.{next_link_is}
use Rattle.wrp_trace.proofs.events.marks.link_here.Goals as goal

pub returns-then-has_text : goal.returns-then-has_text
returns-then-has_text c =
    let below : c.args.at < length c.args.cfg.now.links.items = omega (arith, c.if-at-len.true, c.len.ensures.value) in
    let is = c.index-deref-at.is ∙ ap (λ (links : List LinkCfg). get_or links c.args.at c.index-deref-at.result) c.deref.ensures.0 in
    let same = ap (λ (link : LinkCfg). same_name link.name.bytes c.args.name.now) c.index-deref-at.is ∙ sym c.has_text.ensures ∙ c.if-has_text.true in
    next_link_is c.args.cfg.now c.args.at c.index-deref-at.result c.args.name.now c.requires below is same
