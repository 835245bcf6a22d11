use Rattle.std.proofs.Common.{◌∙◌, ap, ap₂, Some, pos, ◌+ℤ◌, arith}
use Rattle.wrp_network.specs.declared.configuration.NetCfg.{NetCfg}
use Rattle.wrp_bounds.specs.Times.{shortest_tick, longest_tick}
use Rattle.wrp_plant.proofs.SignedReads.{read}
use Rattle.wrp_plant.proofs.Standing.{due_up, due_down}
use Rattle.wrp_plant.proofs.plant.Plant.tick_due.Goals as goal

pub returns-then-clock : goal.returns-then-clock
returns-then-clock c s w h =
    let ticked = read c.clock-clock.result.now.ticked (omega (arith, c.clock-clock.ensures.ticked)) in
    ap₂ (λ x y. Some (x, y)) (read c.sum-first.result (omega (arith, c.sum-first.ensures.size))) (read c.sum-last.result (omega (arith, c.sum-last.ensures.size)))
    ∙ due_up s w c.args.n c.clock-clock.result.now c.sum-first.result c.sum-last.result (c.clock-clock.ensures.value s w h) c.if-clock.true
    (c.sum-first.ensures.value ∙ ap₂ (λ t d. t +ℤ d) ticked
    (read c.shortest_tick-least.result (omega (arith, c.shortest_tick-least.ensures.size)) ∙ c.shortest_tick-least.ensures.value
    ∙ ap (λ (cfg : NetCfg). pos (shortest_tick cfg)) (c.cfg-cfg.ensures.value ∙ h.cfg)))
    (c.sum-last.ensures.value ∙ ap₂ (λ t d. t +ℤ d) ticked
    (read c.longest_tick-most.result (omega (arith, c.longest_tick-most.ensures.size)) ∙ c.longest_tick-most.ensures.value
    ∙ ap (λ (cfg : NetCfg). pos (longest_tick cfg)) (c.cfg-cfg.ensures.value ∙ h.cfg)))

pub returns-else-clock : goal.returns-else-clock
returns-else-clock c s w h = due_down s w c.args.n c.clock-clock.result.now (c.clock-clock.ensures.value s w h) c.if-clock.false
