use Rattle.wrp_plant.proofs.OwnPorts.{own_port, own_told, own_within}
use Rattle.wrp_plant.proofs.plant.Plant.own_at.Goals as goal

pub returns-clause-value : goal.returns-clause-value
returns-clause-value c s w h =
    own_told s w c.args.self.now c.args.place.link c.args.place.role c.link_cfg.result.now c.port_of.result h c.link_cfg.ensures.value c.port_of.ensures

pub returns-clause-node : goal.returns-clause-node
returns-clause-node c = own_within c.args.place.role c.link_cfg.result.now _ c.port_of.result c.link_cfg.ensures.upper c.link_cfg.ensures.lower c.port_of.ensures

pub returns-clause-port : goal.returns-clause-port
returns-clause-port c =
    own_port c.args.self.now.net.cfg c.args.place.link c.args.place.role c.link_cfg.result.now c.port_of.result c.link_cfg.ensures.value c.port_of.ensures
