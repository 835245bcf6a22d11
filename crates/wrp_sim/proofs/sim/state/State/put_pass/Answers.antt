use Rattle.std.proofs.Common.{◌∙◌, ap, ℕ, ℤ, pos, map, length, to_z, of_z}
use Rattle.std.proofs.lemmas.Int.{to_z-of_z}
use Rattle.std.specs.Int.{w64}
use Rattle.wrp_network.specs.declared.configuration.NetCfg.{NetCfg}
use Rattle.wrp_config.specs.declared.network.Network.{Network}
use Rattle.wrp_course.specs.declared.event.Event.TheVariants.{Pass}
use Rattle.wrp_course.specs.Setting.{from_on, nodes_of}
use Rattle.wrp_sim.specs.Rules.{drift_over, pass_of}
use Rattle.wrp_sim.proofs.sim.state.State.put_pass.Goals as goal

pub returns : goal.returns
returns g c s w h =
    let dt : ℤ = to_z w64 (of_z w64 c.args.dt) in
    let count = c.len.ensures.value ∙ ap (λ (x : Network). length x.cfg.links.items) c.net.ensures ∙ ap (λ (x : NetCfg). length x.links.items) h.plant.cfg in
    c.put_all_moves.ensures dt (map (drift_over c.args.self.now.scene s w dt) (nodes_of s)) (c.put_all_drifts.ensures s w h)
    ∙ ap (λ (n : ℕ). Pass dt (record { items = map (drift_over c.args.self.now.scene s w dt) (nodes_of s) }) (record { items = map (λ (k : ℕ). (pos 0, pos 0)) (from_on n 0) })) count
    ∙ ap (λ (t : ℤ). pass_of c.args.self.now.scene s w t) (to_z-of_z w64 c.args.dt c.ranges.dt)
