use Rattle.std.proofs.Common.{◌≡◌, ◌∙◌, ◌+ℤ◌, ◌+◌, ◌*◌, ◌^◌, ap₂, sym, subst, arith}
use Rattle.wrp_plant.specs.Sizes.{IsDueBy, IsTimeBy}
use Rattle.wrp_changes.proofs.Departing.{delay_told, due_fits}
use Rattle.wrp_plant.proofs.SignedReads.{read}
use Rattle.wrp_changes.proofs.moves.departures.due_from.Goals as goal

-- the sum is the time plus the delay
summed : (c : goal.After-sum) → c.sum.result ≡ c.now-now.result +ℤ c.delay_from-delay.result
summed c =
    c.sum.ensures.value
    ∙ ap₂ (λ a b. a +ℤ b) (read c.now-now.result (omega (arith, c.now-now.ensures.size))) (read c.delay_from-delay.result (omega (arith, c.delay_from-delay.ensures.size)))

pub returns-clause-value : goal.returns-clause-value
returns-clause-value c s w h =
    read c.sum.result c.sum.ensures.size
    ∙ summed c ∙ ap₂ (λ a b. a +ℤ b) (c.now-now.ensures.value ∙ h.time) (c.delay_from-delay.ensures.value ∙ delay_told w c.args.place.link c.span.result.now c.args.place.role (h.spans c.args.place.link c.span.result.now c.span.ensures.value))

pub returns-clause-size : goal.returns-clause-size
returns-clause-size c =
    subst (IsDueBy (c.args.plant.now.events + 1)) (sym (read c.sum.result c.sum.ensures.size ∙ summed c))
    (due_fits c.args.plant.now.events c.now-now.result c.delay_from-delay.result
    (subst (IsTimeBy c.args.plant.now.events) (sym c.now-now.ensures.value) c.requires.fits.time)
    (c.delay_from-delay.ensures.most (2 ^ 63 * (c.args.plant.now.events + 1)) c.span.ensures.fits.ms c.span.ensures.fits.sm))
