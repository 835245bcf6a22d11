use Rattle.std.proofs.Common.{◌≡◌, ◌∙◌, ap, sym, Some, [], slice_get}
use Rattle.std.specs.Option.{option_map_or}
use Rattle.wrp_network.specs.declared.configuration.NetCfg.{NetCfg}
use Rattle.wrp_course.specs.Setting.{entry_at, link_of}
use Rattle.wrp_course.specs.WorldAt.{named_at}
use Rattle.wrp_plant.proofs.plant.Plant.first_entry.Goals as goal

pub returns-clause-value : goal.returns-clause-value
returns-clause-value c s w h =
    let there : link_of s c.args.place.link ≡ Some c.link_cfg-link.result.now =
    ap (λ (cfg : NetCfg). slice_get cfg.links.items c.args.place.link) (sym h.cfg) ∙ c.link_cfg-link.ensures.value in
    c.listed_at.ensures.value s w h
    ∙ ap (entry_at s c.args.place.link c.args.place.role)
    (c.named_at.ensures ∙ sym (ap (λ o. option_map_or (named_at c.args.place.role) o []) there))
