use Rattle.std.proofs.Common.{◌∙◌, ap, ap₂, pos, ◌≤ℤ◌, arith}
use Rattle.std.proofs.lemmas.Int.{ints}
use Rattle.wrp_network.specs.declared.configuration.NetCfg.{NetCfg}
use Rattle.wrp_config.specs.declared.network.Network.{Network}
use Rattle.wrp_course.specs.declared.event.Event.TheVariants.{Join}
use Rattle.wrp_plant.proofs.SignedReads.{read}
use Rattle.wrp_scene.specs.Scenario.{ms_of, sm_of}
use Rattle.wrp_sim.proofs.sim.state.State.join_event.Goals as goal

pub returns : goal.returns
returns g c s w h =
    let cfg = ap (λ (net : Network). net.cfg) c.net.ensures ∙ h.plant.cfg in
    let down_low : pos 0 ≤ℤ c.delay_down.result = c.delay_down.ensures.range.0 in
    let down_high : c.delay_down.result ≤ℤ pos 9_223_372_036_854_775_807 = c.delay_down.ensures.range.1 in
    let up_low : pos 0 ≤ℤ c.delay_up.result = c.delay_up.ensures.range.0 in
    let up_high : c.delay_up.result ≤ℤ pos 9_223_372_036_854_775_807 = c.delay_up.ensures.range.1 in
    ap₂ (Join c.args.k)
    (read c.delay_down.result (omega (arith, ints, down_low, down_high)) ∙ c.delay_down.ensures.value ∙ ap (λ (x : NetCfg). ms_of x c.args.self.now.scene c.args.k) cfg)
    (read c.delay_up.result (omega (arith, ints, up_low, up_high)) ∙ c.delay_up.ensures.value ∙ ap (λ (x : NetCfg). sm_of x c.args.self.now.scene c.args.k) cfg)
