use Rattle.std.proofs.Common.{◌∙◌, sym, ap}
use Rattle.wrp_network.specs.declared.configuration.NetCfg.{NetCfg}
use Rattle.wrp_course.specs.Setting.{entry_at, place_among}
use Rattle.wrp_premises.proofs.TriedModules.{module_told, no_module_told}
use Rattle.wrp_premises.proofs.tries.modules.module_broken.Goals as goal

pub returns-in-Some : goal.returns-in-Some
returns-in-Some c s w h =
    module_told s c.args.n c.args.swap.now c.in-Some.place c.listed_at.result c.module_kept.result c.module_kept.ensures
    (c.listed_at.ensures.value s w h ∙ ap (entry_at s c.in-Some.place.link c.in-Some.place.role) c.as_str.ensures.value)
    (ap (λ (cfg : NetCfg). place_among c.args.n c.args.swap.now.port 0 cfg.links.items) (sym h.cfg) ∙ sym c.place_of.ensures.value ∙ c.in-Some.is)

pub returns-in-None : goal.returns-in-None
returns-in-None c s w h =
    no_module_told s c.args.n c.args.swap.now
    (ap (λ (cfg : NetCfg). place_among c.args.n c.args.swap.now.port 0 cfg.links.items) (sym h.cfg) ∙ sym c.place_of.ensures.value ∙ c.in-None.is)
