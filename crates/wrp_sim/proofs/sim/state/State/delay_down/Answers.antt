use Rattle.std.proofs.Common.{◌≡◌, ◌∙◌, ap, ap₂, pos, ◌+ℤ◌, ◌≤ℤ◌, to_z, of_z, Option, arith}
use Rattle.std.proofs.lemmas.Int.{ints}
use Rattle.std.specs.Int.{w128}
use Rattle.std.specs.Option.{option_map_or}
use Rattle.wrp_network.specs.declared.configuration.NetCfg.{NetCfg}
use Rattle.wrp_base.specs.declared.link.Module.{Module}
use Rattle.wrp_config.specs.declared.network.Network.{Network}
use Rattle.wrp_scene.specs.Scenario.{ms_of}
use Rattle.wrp_plant.proofs.SignedReads.{read}
use Rattle.wrp_sim.proofs.sim.state.State.delay_down.Goals as goal

pub returns-clause-value : goal.returns-clause-value
returns-clause-value g c s w h =
    let cfg = ap (λ (net : Network). net.cfg) c.net.ensures ∙ h.plant.cfg in
    let low : pos 0 ≤ℤ c.delay_down-ms.result = c.delay_down-ms.ensures.range.0 in
    let high : c.delay_down-ms.result ≤ℤ pos 9_223_372_036_854_775_807 = c.delay_down-ms.ensures.range.1 in
    let sent : to_z w128 (of_z w128 c.from.result) ≡ pos c.tx_of-sent.result = omega (arith, ints, c.from.ensures) in
    let received : to_z w128 (of_z w128 c.from-2.result) ≡ pos c.rx_of-received.result = omega (arith, ints, c.from-2.ensures) in
    read c.sum-2.result (omega (arith, c.sum-2.ensures.size)) ∙ c.sum-2.ensures.value
    ∙ ap₂ (λ a b. a +ℤ b)
    (read c.sum.result (omega (arith, c.sum.ensures.size)) ∙ c.sum.ensures.value
    ∙ ap₂ (λ a b. a +ℤ b)
    (sent ∙ ap pos (c.tx_of-sent.ensures ∙ ap (λ (e : Option Module). option_map_or (λ m. m.tx) e 0) (c.first_entry.ensures.value s w h)))
    (read c.delay_down-ms.result (omega (arith, ints, low, high)) ∙ c.delay_down-ms.ensures.value ∙ ap (λ (x : NetCfg). ms_of x c.args.self.now.scene c.args.k) cfg))
    (received ∙ ap pos (c.rx_of-received.ensures ∙ ap (λ (e : Option Module). option_map_or (λ m. m.rx) e 0) (c.first_entry-2.ensures.value s w h)))
