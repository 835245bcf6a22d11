use Rattle.std.proofs.Common.{◌∙◌, ap, ap₂, ◌∷◌, [], ◌-ℤ◌, pos, arith}
use Rattle.wrp_network.specs.declared.configuration.NetCfg.{NetCfg}
use Rattle.wrp_bounds.specs.Times.{frame_life}
use Rattle.wrp_course.specs.Checks.{told_of, at_most}
use Rattle.wrp_plant.proofs.SignedReads.{read}
use Rattle.wrp_premises.proofs.handing.age_broken.Goals as goal

pub returns : goal.returns
returns c s w h =
    c.young_enough.ensures
    ∙ ap₂ (λ a l. told_of (at_most 10 a l ∷ []))
    (ap₂ (λ x y. x -ℤ y) (read c.now-now.result (omega (arith, c.now-now.ensures.size)) ∙ c.now-now.ensures.value ∙ h.time)
    (read c.args.sent (omega (arith, c.requires.sent))))
    (read c.frame_life-life.result (omega (arith, c.frame_life-life.ensures.size)) ∙ c.frame_life-life.ensures.value
    ∙ ap (λ (cfg : NetCfg). pos (frame_life cfg)) (c.cfg-cfg.ensures.value ∙ h.cfg))
