use Rattle.std.proofs.Common.{◌∙◌, ap}
use Rattle.wrp_network.specs.declared.configuration.NetCfg.{NetCfg}
use Rattle.wrp_course.specs.Setting.{place_among}
use Rattle.wrp_plant.specs.Plant.{PlantIs}
use Rattle.wrp_world.proofs.Inside.{plant_is}
use Rattle.wrp_world.proofs.world.World.place.Goals as goal

pub returns-clause-value : goal.returns-clause-value
returns-clause-value g c s w h =
    let p : PlantIs s w c.self.inside.plant = plant_is _ s w c.args.self.now c.self.inside.plant c.self.inside.nodes.items c.self.view_is h in
    c.place_of.ensures.value ∙ ap (λ (cfg : NetCfg). place_among c.args.n c.args.port 0 cfg.links.items) p.cfg
