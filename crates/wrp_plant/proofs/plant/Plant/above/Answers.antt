use Rattle.std.proofs.Common.{◌≡◌, ◌∙◌, ap, sym, subst, ◌==◌, ◌-◌, true, false, slice_get}
use Rattle.std.specs.List.{position}
use Rattle.std.specs.Option.{option_map_or}
use Rattle.wrp_network.specs.declared.configuration.NetCfg.{NetCfg}
use Rattle.wrp_plant.proofs.OwnLinks.{own_place, own_within, stands_at}
use Rattle.wrp_plant.proofs.plant.Plant.above.Goals as goal

pub returns-then-has_own_link-clause-value : goal.returns-then-has_own_link-clause-value
returns-then-has_own_link-clause-value c s w h =
    let at = stands_at c.args.n (c.args.n - 1) c.args.self.now.net.cfg.links.items
    (subst (λ (cfg : NetCfg). option_map_or (λ link. link.lower == c.args.n) (slice_get cfg.links.items (c.args.n - 1)) false ≡ true) c.cfg-cfg.ensures.value
    (c.has_own_link.ensures.place c.if-has_own_link.true)) in
    sym (own_place c.args.self.now.net.cfg c.args.n (c.args.n - 1) c.requires.accepted.tree at)
    ∙ ap (λ (cfg : NetCfg). position (λ link. link.lower == c.args.n) cfg.links.items) h.cfg

pub returns-then-has_own_link-clause-within : goal.returns-then-has_own_link-clause-within
returns-then-has_own_link-clause-within c =
    own_within c.args.n (c.args.n - 1) c.args.self.now.net.cfg.links.items
    (stands_at c.args.n (c.args.n - 1) c.args.self.now.net.cfg.links.items
    (subst (λ (cfg : NetCfg). option_map_or (λ link. link.lower == c.args.n) (slice_get cfg.links.items (c.args.n - 1)) false ≡ true) c.cfg-cfg.ensures.value
    (c.has_own_link.ensures.place c.if-has_own_link.true)))

pub returns-else-has_own_link-clause-value : goal.returns-else-has_own_link-clause-value
returns-else-has_own_link-clause-value c s w h =
    c.link_above.ensures.value
    ∙ ap (λ (cfg : NetCfg). position (λ link. link.lower == c.args.n) cfg.links.items) (c.cfg-cfg.ensures.value ∙ h.cfg)
