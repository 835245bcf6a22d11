use Rattle.std.proofs.Common.{◌∙◌, ap, ◌∷◌, []}
use Rattle.std.specs.Option.{is_some}
use Rattle.wrp_network.specs.declared.configuration.NetCfg.{NetCfg}
use Rattle.wrp_course.specs.Checks.{told_of, needs}
use Rattle.wrp_course.specs.Setting.{place_among}
use Rattle.wrp_premises.proofs.tries.modules.port_broken.Goals as goal

pub returns : goal.returns
returns c s w h =
    c.needs.ensures ∙ ap (λ b. told_of (needs b ∷ [])) (c.is_some.ensures ∙ ap is_some (c.place_of-place.ensures.value
    ∙ ap (λ (cfg : NetCfg). place_among c.args.n c.args.swap.now.port 0 cfg.links.items) h.cfg))
