use Rattle.std.proofs.Common.{◌≡◌, ◌∙◌, ap, pos, ◌≤ℤ◌, FitsSigned, arith}
use Rattle.std.proofs.lemmas.Int.{ints, to_z-of_z}
use Rattle.std.specs.Int.{w64}
use Rattle.wrp_network.specs.declared.configuration.NetCfg.{NetCfg}
use Rattle.wrp_config.specs.declared.network.Network.{Network}
use Rattle.wrp_sim.proofs.sim.passing.bias.Goals as goal

pub returns-clause-value : goal.returns-clause-value
returns-clause-value g c s w h =
    let low : pos 0 ≤ℤ c.args.world.now.plant.net.cfg.bias = c.requires.plant.accepted.ranges.bias.0 in
    let high : c.args.world.now.plant.net.cfg.bias ≤ℤ pos 65_535 = c.requires.plant.accepted.ranges.bias.1 in
    let is : c.net.result.now.cfg.bias ≡ c.args.world.now.plant.net.cfg.bias = ap (λ (net : Network). net.cfg.bias) c.net.ensures in
    let fits : FitsSigned w64 c.net.result.now.cfg.bias = omega (arith, ints, is, low, high) in
    to_z-of_z w64 c.net.result.now.cfg.bias fits ∙ is ∙ ap (λ (x : NetCfg). x.bias) h.plant.cfg

pub returns-clause-size : goal.returns-clause-size
returns-clause-size g c =
    let low : pos 0 ≤ℤ c.args.world.now.plant.net.cfg.bias = c.requires.plant.accepted.ranges.bias.0 in
    let high : c.args.world.now.plant.net.cfg.bias ≤ℤ pos 65_535 = c.requires.plant.accepted.ranges.bias.1 in
    let is : c.net.result.now.cfg.bias ≡ c.args.world.now.plant.net.cfg.bias = ap (λ (net : Network). net.cfg.bias) c.net.ensures in
    omega (arith, ints, is, low, high)
