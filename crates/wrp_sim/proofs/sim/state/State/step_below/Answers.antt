use Rattle.std.proofs.Common.{◌∙◌, ap, ap₂, sym, Some, option_map, ◌+ℤ◌, arith}
use Rattle.wrp_network.specs.declared.configuration.NetCfg.{NetCfg}
use Rattle.wrp_network.specs.declared.network.LinkCfg.{LinkCfg}
use Rattle.wrp_config.specs.declared.network.Network.{Network}
use Rattle.wrp_phase.specs.BeatPattern.{true_step}
use Rattle.wrp_sim.specs.Rules.{step_below}
use Rattle.wrp_sim.proofs.Seen.{link_is}
use Rattle.wrp_plant.proofs.SignedReads.{read}
use Rattle.wrp_sim.proofs.sim.state.State.step_below.Goals as goal

pub returns-clause-value : goal.returns-clause-value
returns-clause-value g c s w h =
    let cfg = ap (λ (net : Network). net.cfg) c.net.ensures ∙ h.plant.cfg in
    ap Some (c.true_step.ensures.value
    ∙ ap₂ true_step (ap (λ (x : NetCfg). x.clock) cfg)
    (read c.sum-phase.result (omega (arith, c.sum-phase.ensures.size)) ∙ c.sum-phase.ensures.value
    ∙ ap₂ (λ a b. a +ℤ b) (read c.apart-ahead.result (omega (arith, c.apart-ahead.ensures.size)) ∙ c.apart-ahead.ensures.value s w h) (read c.delay_down-down.result (omega (arith, c.delay_down-down.ensures.size)) ∙ c.delay_down-down.ensures.value s w h)))
    ∙ sym (ap (option_map (λ (link : LinkCfg). step_below c.args.self.now.scene s w c.args.k link)) (link_is _ s w c.args.world.now c.args.k c.link_cfg-link.result.now h c.link_cfg-link.ensures.value))
