use Rattle.std.proofs.Common.{rules, ◌∙◌, ap, sym, ℤ, FitsSigned}
use Rattle.std.proofs.lemmas.Int.{to_z-of_z}
use Rattle.std.specs.Int.{w64}
use Rattle.wrp_sim.specs.Numbers.{drift_at}
use Rattle.wrp_sim.proofs.Steered.{down_over, rate_by, steered_moves}
use Rattle.wrp_sim.proofs.sim.state.State.drift.Goals as goal

pub returns-in-Some : goal.returns-in-Some
returns-in-Some g c s w h =
    let fits : FitsSigned w64 c.moves.result = search rules in
    steered_moves c.args.self.now.scene s w c.args.dt _ c.args.n c.in-Some.steering (sym c.in-Some.is ∙ c.steering.ensures.value s w h)
    (to_z-of_z w64 c.moves.result fits ∙ c.moves.ensures s w h
    ∙ ap (λ (t : ℤ). drift_at t (rate_by c.args.self.now.scene s c.args.n c.in-Some.steering)) (to_z-of_z w64 c.args.dt c.ranges.dt))

pub returns-in-None : goal.returns-in-None
returns-in-None g c s w h = down_over c.args.self.now.scene s w c.args.dt c.args.n (sym c.in-None.is ∙ c.steering.ensures.value s w h)
