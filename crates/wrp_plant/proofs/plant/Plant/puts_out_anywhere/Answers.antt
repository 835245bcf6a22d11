use Rattle.std.proofs.Common.{◌-◌, ◌+◌, ◌∙◌, ap, length, sym, ◌||◌}
use Rattle.std.specs.List.{list_any}
use Rattle.wrp_network.specs.declared.configuration.NetCfg.{NetCfg}
use Rattle.wrp_base.specs.declared.link.Role.TheVariants.{Master, Slave}
use Rattle.wrp_course.specs.Setting.{from_on}
use Rattle.wrp_plant.specs.PutOut.{puts_out_at}
use Rattle.wrp_plant.proofs.PutOuts.{any_end, any_more}
use Rattle.wrp_plant.proofs.plant.Plant.puts_out_anywhere.Goals as goal

pub returns-then-puts_out_over : goal.returns-then-puts_out_over
returns-then-puts_out_over c s w h =
    sym (any_more (λ k. puts_out_at w k Master || puts_out_at w k Slave) c.link_count-count.result c.loop-k.k c.loop-k-test.true
    ∙ ap (λ b. b || list_any (λ k. puts_out_at w k Master || puts_out_at w k Slave) (from_on (c.link_count-count.result - (c.loop-k.k + 1)) (c.loop-k.k + 1)))
    (sym (c.puts_out_over.ensures s w h) ∙ c.if-puts_out_over.true))
    ∙ c.loop-k.invariant s w h
    ∙ ap (λ n. list_any (λ k. puts_out_at w k Master || puts_out_at w k Slave) (from_on n 0))
    (c.link_count-count.ensures ∙ ap (λ (cfg : NetCfg). length cfg.links.items) h.cfg)

pub loop-k-preserved : goal.loop-k-preserved
loop-k-preserved c s w h =
    sym (any_more (λ k. puts_out_at w k Master || puts_out_at w k Slave) c.link_count-count.result c.loop-k.k c.loop-k-test.true
    ∙ ap (λ b. b || list_any (λ k. puts_out_at w k Master || puts_out_at w k Slave) (from_on (c.link_count-count.result - (c.loop-k.k + 1)) (c.loop-k.k + 1)))
    (sym (c.puts_out_over.ensures s w h) ∙ c.if-puts_out_over.false))
    ∙ c.loop-k.invariant s w h

pub returns : goal.returns
returns c s w h =
    sym (any_end (λ k. puts_out_at w k Master || puts_out_at w k Slave) c.link_count-count.result c.loop-k.k c.loop-k-test.false)
    ∙ c.loop-k.invariant s w h
    ∙ ap (λ n. list_any (λ k. puts_out_at w k Master || puts_out_at w k Slave) (from_on n 0))
    (c.link_count-count.ensures ∙ ap (λ (cfg : NetCfg). length cfg.links.items) h.cfg)
