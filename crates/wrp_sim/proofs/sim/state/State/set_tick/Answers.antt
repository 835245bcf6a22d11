use Rattle.std.proofs.Common.{◌≡◌, ◌∙◌, ap, ap₂, sym, subst, ℕ, pos, ◌+ℤ◌, arith}
use Rattle.wrp_network.specs.declared.configuration.NetCfg.{NetCfg}
use Rattle.wrp_bounds.specs.Times.{longest_tick, shortest_tick}
use Rattle.wrp_config.specs.declared.network.Network.{Network}
use Rattle.wrp_plant.specs.Plant.{Each}
use Rattle.wrp_plant.proofs.SignedReads.{read}
use Rattle.wrp_sim.specs.Draws.{drawn_from, next_state}
use Rattle.wrp_sim.specs.Rules.{with_tick}
use Rattle.wrp_sim.proofs.TickTimes.{ticks_set}
use Rattle.wrp_sim.proofs.sim.state.State.set_tick.Goals as goal

pub returns-clause-ticks : goal.returns-clause-ticks
returns-clause-ticks g c s w at h i =
    let cfg = ap (λ (net : Network). net.cfg) c.net.ensures ∙ h.plant.cfg in
    let value =
    read c.sum-next.result (omega (arith, c.sum-next.ensures.size)) ∙ c.sum-next.ensures.value ∙ ap₂ (λ a b. a +ℤ b)
    (read c.time-now.result (omega (arith, c.time-now.ensures.size)) ∙ c.time-now.ensures.value s w h)
    (read c.draw_from-wait.result (omega (arith, c.draw_from-wait.ensures.size)) ∙ c.draw_from-wait.ensures.value
    ∙ ap₂ (λ a b. drawn_from a b c.args.self.now.draws)
    (read c.shortest_tick.result (omega (arith, c.shortest_tick.ensures.size)) ∙ c.shortest_tick.ensures.value ∙ ap (λ (x : NetCfg). pos (shortest_tick x)) cfg)
    (read c.longest_tick.result (omega (arith, c.longest_tick.ensures.size)) ∙ c.longest_tick.ensures.value ∙ ap (λ (x : NetCfg). pos (longest_tick x)) cfg)
    ∙ ap (λ (n : ℕ). drawn_from (pos (shortest_tick s.cfg)) (pos (longest_tick s.cfg)) n) i.state) in
    record {
      state = c.draw_from-wait.ensures.state ∙ ap next_state i.state;
      begun = i.begun;
      faults = i.faults;
      ticks =
          subst (Each (λ m x. x ≡ (with_tick s w.time c.args.n at).tick_at m)) (sym c.set.ensures)
          (ticks_set s w.time c.args.n at c.args.self.now.tick_at _ i.ticks value);
      ticked = i.ticked;
      arrived = i.arrived;
    }
