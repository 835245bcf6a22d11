use Rattle.std.proofs.Common.{◌∙◌, sym, ap, slice_get}
use Rattle.wrp_network.specs.declared.configuration.NetCfg.{NetCfg}
use Rattle.wrp_course.specs.Setting.{link_of}
use Rattle.wrp_plant.proofs.Standing.{up_told}
use Rattle.wrp_plant.proofs.plant.Plant.ends_are_up.Goals as goal

pub returns : goal.returns
returns c s w h =
    c.both.ensures
    ∙ up_told w.clock (link_of s c.args.k) c.link_cfg-link.result.now c.is_up-upper.result c.is_up-lower.result
    (ap (λ (cfg : NetCfg). slice_get cfg.links.items c.args.k) (sym h.cfg) ∙ c.link_cfg-link.ensures.value)
    (c.is_up-upper.ensures s w h) (c.is_up-lower.ensures s w h)
