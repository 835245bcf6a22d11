use Rattle.std.proofs.Common.{◌∙◌, sym, ap, subst, ◌≤◌, false, slice_get, IfSome, None, if◌then◌else◌}
use Rattle.wrp_network.specs.declared.configuration.NetCfg.{NetCfg}
use Rattle.wrp_node.specs.NodeAt.{locked_of, state_of}
use Rattle.wrp_plant.specs.Plant.{PlantIs}
use Rattle.wrp_course.specs.Setting.{node_setting_of}
use Rattle.wrp_world.proofs.Inside.{plant_is}
use Rattle.wrp_world.proofs.Steering.{network_in, or_rest, or_some, rate_asked}
use Rattle.wrp_premises.proofs.TriedRates.{rate_small}
use Rattle.wrp_world.proofs.world.World.rate_where.Goals as goal

pub returns-in-Some-clause-value : goal.returns-in-Some-clause-value
returns-in-Some-clause-value g c s w h =
    let p : PlantIs s w c.self.inside.plant = plant_is _ s w c.args.self.now c.self.inside.plant c.self.inside.nodes.items c.self.view_is h in
    let node = h.nodes c.args.n c.node-node.result.now c.node-node.ensures in
    rate_asked s w c.args.n c.args.up c.locked-locked.result c.servo-state.result c.node_cfg-cfg.result.now _
    (network_in _ _ s w c.args.self.now c.requires.valid h)
    (or_some _ _ c.in-Some.rate
    (sym (c.steered_where.ensures ∙ ap (λ o. if c.args.up then o else None) c.steered_rate.ensures) ∙ c.in-Some.is))
    (c.requires.up s w h)
    (c.locked-locked.ensures (node_setting_of s c.args.n) (w.inputs c.args.n) node.stands ∙ ap (locked_of (node_setting_of s c.args.n)) (sym node.at))
    (c.servo-state.ensures (node_setting_of s c.args.n) (w.inputs c.args.n) node.stands ∙ ap (state_of (node_setting_of s c.args.n)) (sym node.at))
    (ap (λ (cfg : NetCfg). slice_get cfg.nodes.items c.args.n) (sym p.cfg) ∙ c.node_cfg-cfg.ensures.value)

pub returns-in-None-clause-value : goal.returns-in-None-clause-value
returns-in-None-clause-value g c s w h =
    let p : PlantIs s w c.self.inside.plant = plant_is _ s w c.args.self.now c.self.inside.plant c.self.inside.nodes.items c.self.view_is h in
    let node = h.nodes c.args.n c.node-node.result.now c.node-node.ensures in
    rate_asked s w c.args.n c.args.up c.locked-locked.result c.servo-state.result c.node_cfg-cfg.result.now _
    (network_in _ _ s w c.args.self.now c.requires.valid h)
    (or_rest _ _ c.still_rate.result
    (sym (c.steered_where.ensures ∙ ap (λ o. if c.args.up then o else None) c.steered_rate.ensures) ∙ c.in-None.is) (c.still_rate.ensures.value s w h))
    (c.requires.up s w h)
    (c.locked-locked.ensures (node_setting_of s c.args.n) (w.inputs c.args.n) node.stands ∙ ap (locked_of (node_setting_of s c.args.n)) (sym node.at))
    (c.servo-state.ensures (node_setting_of s c.args.n) (w.inputs c.args.n) node.stands ∙ ap (state_of (node_setting_of s c.args.n)) (sym node.at))
    (ap (λ (cfg : NetCfg). slice_get cfg.nodes.items c.args.n) (sym p.cfg) ∙ c.node_cfg-cfg.ensures.value)

pub returns-in-Some-clause-most : goal.returns-in-Some-clause-most
returns-in-Some-clause-most g c =
    subst (λ o. IfSome o (λ x. x ≤ 1_000_000_000)) c.in-Some.is
    (rate_small false c.args.up c.locked-locked.result c.servo-state.result c.node_cfg-cfg.result.now c.steered_where.result
    (c.steered_where.ensures ∙ ap (λ o. if c.args.up then o else None) c.steered_rate.ensures)
    c.node_cfg-cfg.ensures.ranges.slew c.node_cfg-cfg.ensures.ranges.held)
