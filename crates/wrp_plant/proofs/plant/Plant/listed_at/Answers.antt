use Rattle.std.proofs.Common.{◌∙◌, sym, ap, subst, IfSome, slice_get, ◌<◌}
use Rattle.wrp_network.specs.declared.configuration.NetCfg.{NetCfg}
use Rattle.wrp_base.specs.declared.link.Module.{Module}
use Rattle.wrp_base.specs.Clock.{steps_of_period}
use Rattle.wrp_course.specs.Setting.{sends_nm}
use Rattle.wrp_plant.proofs.ListedModules.{entry_told, module_has}
use Rattle.wrp_plant.proofs.plant.Plant.listed_at.Goals as goal

pub returns-clause-value : goal.returns-clause-value
returns-clause-value c s w h =
    entry_told s c.args.place.link c.args.place.role c.args.name.now c.args.self.now.net.db c.link_cfg-link.result.now c.sends_nm-tx_nm.result c.sends_nm-rx_nm.result c.module_at.result
    c.module_at.ensures c.sends_nm-tx_nm.ensures
    (c.sends_nm-rx_nm.ensures ∙ ap (λ r. sends_nm r c.link_cfg-link.result.now) c.other_of.ensures)
    h.db (ap (λ (cfg : NetCfg). slice_get cfg.links.items c.args.place.link) (sym h.cfg) ∙ c.link_cfg-link.ensures.value)

pub returns-clause-transition : goal.returns-clause-transition
returns-clause-transition c =
    subst (λ o. IfSome o (λ (m : Module). m.transition < steps_of_period)) (sym c.module_at.ensures)
    (module_has c.args.self.now.net.db c.args.name.now c.sends_nm-tx_nm.result c.sends_nm-rx_nm.result c.requires.fits.accepted.database)
