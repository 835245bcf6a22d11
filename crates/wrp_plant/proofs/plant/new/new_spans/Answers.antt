use Rattle.std.proofs.Common.{◌≡◌, ◌+◌, ◌∙◌, sym, subst, ap, length, slice_get, Some}
use Rattle.std.proofs.lemmas.Option.{get_or_from_slice_get}
use Rattle.wrp_network.specs.declared.network.LinkCfg.{LinkCfg}
use Rattle.wrp_plant.specs.New.{IsNewSpan, IsSpanOf}
use Rattle.wrp_plant.specs.Plant.{Each}
use Rattle.wrp_plant.proofs.EachLists.{each_push, length_push}
use Rattle.wrp_plant.proofs.plant.new.new_spans.Goals as goal

pub loop-link-preserved : goal.loop-link-preserved
loop-link-preserved c =
    let items = c.in_ok-push.ensures.items in (
      ap length items ∙ length_push c.loop-link.spans.items _ ∙ ap (λ k. k + 1) c.loop-link.invariant.0,
      subst (Each (IsSpanOf c.args.db.now c.args.links.now)) (sym items)
          (each_push (IsSpanOf c.args.db.now c.args.links.now) c.loop-link.spans.items c.new_span.result c.loop-link.invariant.1
          (λ link e. subst (λ (l : LinkCfg). IsNewSpan c.args.db.now l c.new_span.result)
          (c.link-item.is ∙ get_or_from_slice_get c.args.links.now c.loop-link.link-index link c.link-item.result (subst (λ k. slice_get c.args.links.now k ≡ Some link) c.loop-link.invariant.0 e)) c.new_span.ensures)),
    )
