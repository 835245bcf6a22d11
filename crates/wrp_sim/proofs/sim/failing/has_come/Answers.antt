use Rattle.std.proofs.Common.{◌∙◌, ap, ap₂, pos, ◌*ℤ◌, ◌+ℤ◌, ◌≤ℤ◌, arith}
use Rattle.std.proofs.lemmas.Int.{ints}
use Rattle.std.specs.Int.Signed.{le_z}
use Rattle.wrp_network.specs.declared.configuration.NetCfg.{NetCfg}
use Rattle.wrp_base.specs.Clock.{second}
use Rattle.wrp_config.specs.declared.network.Network.{Network}
use Rattle.wrp_plant.proofs.SignedReads.{read}
use Rattle.wrp_sim.proofs.sim.failing.has_come.Goals as goal

pub returns : goal.returns
returns g c s w h =
    let cfg = ap (λ (net : Network). net.cfg) c.net.ensures ∙ h.plant.cfg in
    let low : pos 0 ≤ℤ c.args.fault.now.at = c.requires.fault.at.0 in
    let high : c.args.fault.now.at ≤ℤ pos 655_360_000_000_000_000_000 = c.requires.fault.at.1 in
    c.is_by.ensures
    ∙ ap₂ le_z
    (read c.sum-due.result (omega (arith, c.sum-due.ensures.size)) ∙ c.sum-due.ensures.value
    ∙ ap₂ (λ a b. a +ℤ b)
    (read c.start_of-start.result (omega (arith, c.start_of-start.ensures.size)) ∙ c.start_of-start.ensures.value ∙ ap (λ (x : NetCfg). x.epoch *ℤ second) cfg)
    (read c.args.fault.now.at (omega (arith, ints, low, high))))
    (read c.time-now.result (omega (arith, c.time-now.ensures.size)) ∙ c.time-now.ensures.value s w h)
