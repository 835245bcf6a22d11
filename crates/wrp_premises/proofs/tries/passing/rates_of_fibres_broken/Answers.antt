use Rattle.std.proofs.Common.{◌∙◌, ap, ap₂, length, flat_map}
use Rattle.std.proofs.lemmas.Int.{to_z-of_z}
use Rattle.std.specs.Int.{w64}
use Rattle.wrp_network.specs.declared.configuration.NetCfg.{NetCfg}
use Rattle.wrp_course.specs.Checks.{told_of}
use Rattle.wrp_course.specs.Premises.{rate_of_fibre}
use Rattle.wrp_premises.proofs.TriedRates.{rates_told}
use Rattle.wrp_premises.proofs.tries.passing.rates_of_fibres_broken.Goals as goal

pub returns : goal.returns
returns c s w h =
    c.fibre_rates.ensures ∙ ap₂ (λ d xs. told_of (flat_map (rate_of_fibre d) xs)) (to_z-of_z w64 c.args.dt c.ranges.dt) c.as_slice.ensures.value
    ∙ rates_told s c.args.dt c.args.moves.now.items (c.requires.links ∙ ap (λ (cfg : NetCfg). length cfg.links.items) h.cfg)
