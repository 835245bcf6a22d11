use Rattle.std.proofs.Common.{rules, ◌∙◌, ap, ap₂, ℤ, FitsSigned}
use Rattle.std.proofs.lemmas.Int.{to_z-of_z}
use Rattle.std.specs.Int.{w64}
use Rattle.wrp_sim.specs.Numbers.{drift_at, held_to, own_rate}
use Rattle.wrp_sim.proofs.sim.state.State.moves.Goals as goal

pub returns : goal.returns
returns g c s w h =
    let fits : FitsSigned w64 c.drift_by.result = search rules in
    let free_fits : FitsSigned w64 c.free-free.result = search rules in
    let bias_fits : FitsSigned w64 c.bias.result = search rules in
    let own_fits : FitsSigned w64 c.own_rate-own.result = search rules in
    let held_fits : FitsSigned w64 c.held_to-rate.result = search rules in
    to_z-of_z w64 c.drift_by.result fits
    ∙ c.drift_by.ensures
    ∙ ap₂ drift_at (to_z-of_z w64 c.args.dt c.ranges.dt)
    (to_z-of_z w64 c.held_to-rate.result held_fits ∙ c.held_to-rate.ensures.value
    ∙ ap (held_to c.args.steering.kept)
    (to_z-of_z w64 c.own_rate-own.result own_fits ∙ c.own_rate-own.ensures.value
    ∙ ap₂ (λ (f b : ℤ). own_rate f c.args.steering.dac b) (to_z-of_z w64 c.free-free.result free_fits ∙ c.free-free.ensures.value)
    (to_z-of_z w64 c.bias.result bias_fits ∙ c.bias.ensures.value s w h)))
