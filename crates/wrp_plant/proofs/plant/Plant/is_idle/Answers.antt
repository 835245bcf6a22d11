use Rattle.std.proofs.Common.{◌∙◌, sym, ap₂, ◌||◌, Option, ℤ}
use Rattle.wrp_base.specs.declared.link.Role.TheVariants.{Master, Slave}
use Rattle.wrp_plant.specs.Plant.{SpanIs}
use Rattle.wrp_plant.specs.PutOut.{is_now}
use Rattle.wrp_plant.proofs.plant.Plant.is_idle.Goals as goal

pub returns : goal.returns
returns c s w h e =
    let none = c.neither.ensures e in
    let here : SpanIs w c.args.k c.span-span.result.now = h.spans c.args.k c.span-span.result.now c.span-span.ensures.value in
    ap₂ (λ (a b : Option ℤ). is_now w a || is_now w b)
    (sym (c.oldest-upper.ensures (w.end_at c.args.k Master) here.master) ∙ none.0)
    (sym (c.oldest-lower.ensures (w.end_at c.args.k Slave) here.slave) ∙ none.1)
