use Rattle.std.proofs.Common.{◌∙◌, sym, ap, ap₂, ◌∷◌, [], pos, arith}
use Rattle.std.specs.Option.{option_or}
use Rattle.wrp_network.specs.declared.configuration.NetCfg.{NetCfg}
use Rattle.wrp_bounds.specs.Times.{shortest_tick}
use Rattle.wrp_course.specs.Checks.{told_of, needs}
use Rattle.wrp_course.specs.Premises.{tick_early}
use Rattle.wrp_plant.proofs.SignedReads.{read}
use Rattle.wrp_premises.proofs.TriedNodes.{early_told}
use Rattle.wrp_course.proofs.Told.{told_cons}
use Rattle.wrp_premises.proofs.tries.tick_broken.Goals as goal

pub returns : goal.returns
returns c s w h =
    c.or.ensures ∙ ap₂ option_or
    (early_told s w c.args.n _ _ c.clock-clock.result.now c.tick_early.result c.tick_early.ensures
    (read c.shortest_tick-least.result (omega (arith, c.shortest_tick-least.ensures.size)) ∙ c.shortest_tick-least.ensures.value
    ∙ ap (λ (cfg : NetCfg). pos (shortest_tick cfg)) (c.cfg.ensures.value ∙ h.cfg))
    (read c.now-now.result (omega (arith, c.now-now.ensures.size)) ∙ c.now-now.ensures.value ∙ h.time)
    (c.clock-clock.ensures.value s w h))
    (c.needs.ensures ∙ ap (λ b. told_of (needs b ∷ [])) (c.is_up-up.ensures s w h))
    ∙ sym (told_cons (tick_early s w c.args.n) (needs (w.clock c.args.n).up ∷ []))
