use Rattle.std.proofs.Common.{◌≡◌, ◌∙◌, ap, ap₂, pos, ◌*ℤ◌, ◌+ℤ◌, ◌≤ℤ◌, arith}
use Rattle.std.proofs.lemmas.Int.{ints}
use Rattle.wrp_network.specs.declared.configuration.NetCfg.{NetCfg}
use Rattle.wrp_base.specs.Clock.{second}
use Rattle.wrp_config.specs.declared.network.Network.{Network}
use Rattle.wrp_plant.proofs.SignedReads.{read}
use Rattle.wrp_sim.proofs.sim.state.State.end_time.Goals as goal

pub returns-clause-value : goal.returns-clause-value
returns-clause-value g c s w h =
    let cfg = ap (λ (net : Network). net.cfg) c.net.ensures ∙ h.plant.cfg in
    let is : c.duration-duration.result ≡ c.args.self.now.scene.duration = c.duration-duration.ensures in
    let low : pos 0 ≤ℤ c.args.self.now.scene.duration = c.requires.fits.scene.duration.0 in
    let high : c.args.self.now.scene.duration ≤ℤ pos 655_360_000_000_000_000_000 = c.requires.fits.scene.duration.1 in
    read c.sum.result (omega (arith, c.sum.ensures.size)) ∙ c.sum.ensures.value
    ∙ ap₂ (λ a b. a +ℤ b)
    (read c.start_of-start.result (omega (arith, c.start_of-start.ensures.size)) ∙ c.start_of-start.ensures.value ∙ ap (λ (x : NetCfg). x.epoch *ℤ second) cfg)
    (read c.duration-duration.result (omega (arith, ints, is, low, high)) ∙ is)
