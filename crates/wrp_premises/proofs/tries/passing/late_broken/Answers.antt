use Rattle.std.proofs.Common.{◌∙◌, refl, sym, ap, ap₂, pos, ◌+ℤ◌, length, map, slice_get, to_z, of_z, arith}
use Rattle.std.proofs.lemmas.Int.{to_z-of_z}
use Rattle.std.specs.Int.{w64, w128}
use Rattle.wrp_network.specs.declared.configuration.NetCfg.{NetCfg}
use Rattle.wrp_bounds.specs.Times.{longest_tick}
use Rattle.wrp_course.specs.Checks.{told_of}
use Rattle.wrp_course.specs.Premises.{late_by}
use Rattle.wrp_plant.specs.Sizes.{IsTime}
use Rattle.wrp_plant.proofs.SignedReads.{read}
use Rattle.wrp_plant.proofs.Sizing.{time_size}
use Rattle.wrp_premises.proofs.TriedRates.{late_told}
use Rattle.wrp_premises.proofs.tries.passing.late_broken.Goals as goal

pub ticks_late-requires-clause-ticked : goal.ticks_late-requires-clause-ticked
ticks_late-requires-clause-ticked c n clock e =
    time_size c.args.plant.now.events clock.ticked c.requires.events (c.requires.clocks n clock (ap (λ xs. slice_get xs n) (sym c.as_slice.ensures.value) ∙ e)).ticked

pub returns : goal.returns
returns c s w h =
    let small : IsTime c.args.plant.now.time = time_size c.args.plant.now.events c.args.plant.now.time c.requires.events c.requires.time in
    c.ticks_late.ensures
    ∙ ap (λ xs. told_of (map (late_by (to_z w128 (of_z w128 c.longest_tick-most.result)) (to_z w128 (of_z w128 c.later-after.result))) xs)) c.as_slice.ensures.value
    ∙ ap₂ (λ m a. told_of (map (late_by m a) c.args.plant.now.clocks.items))
    (read c.longest_tick-most.result (omega (arith, c.longest_tick-most.ensures.size)) ∙ c.longest_tick-most.ensures.value
    ∙ ap (λ (cfg : NetCfg). pos (longest_tick cfg)) (c.cfg.ensures.value ∙ h.cfg))
    (read c.later-after.result (omega (arith, c.later-after.ensures.size)) ∙ c.later-after.ensures.value
    ∙ ap₂ (λ t d. t +ℤ d) (read c.args.plant.now.time (omega (arith, small)) ∙ h.time) (to_z-of_z w64 c.args.dt c.ranges.dt))
    ∙ late_told s w c.args.dt c.args.plant.now.clocks.items (c.requires.clock_count ∙ ap (λ (cfg : NetCfg). length cfg.nodes.items) h.cfg) h.clocks _ _ (λ n. refl)
