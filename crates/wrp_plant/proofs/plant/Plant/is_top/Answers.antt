use Rattle.std.proofs.Common.{◌∙◌, ap, not}
use Rattle.std.specs.Option.{is_some}
use Rattle.wrp_network.specs.declared.configuration.NetCfg.{NetCfg}
use Rattle.wrp_network.specs.Network.{link_above}
use Rattle.wrp_plant.proofs.Grandmasters.{only_top}
use Rattle.wrp_plant.proofs.plant.Plant.is_top.Goals as goal

pub returns-else-n-self : goal.returns-else-n-self
returns-else-n-self c s w h =
    c.is_past.ensures ∙ only_top c.args.self.now.net.cfg c.args.self.now.top c.args.n c.requires.accepted.tree c.requires.top c.if-n-self.false
    ∙ ap (λ (cfg : NetCfg). not (is_some (link_above cfg c.args.n))) h.cfg
