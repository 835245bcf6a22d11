use Rattle.std.proofs.Common.{rules, ◌∙◌, ap, sym, Option, Some, ℕ, ℤ, FitsSigned}
use Rattle.std.proofs.lemmas.Int.{to_z-of_z}
use Rattle.std.specs.Int.{w128}
use Rattle.wrp_sim.specs.Rules.{arrives}
use Rattle.wrp_sim.proofs.Turns.{gave_none, gives_same}
use Rattle.wrp_sim.proofs.sim.state.State.arrive.Goals as goal

pub returns-in-Some-clause-follows : goal.returns-in-Some-clause-follows
returns-in-Some-clause-follows g c s w at h i =
    let fits : FitsSigned w128 c.in-Some.at = search rules in
    gives_same at _ (arrives c.args.self.now.scene s w c.args.due at) _ c.arrive_at.new.self
    (ap (λ (t : ℤ). arrives c.args.self.now.scene s w (Some (c.in-Some.frame, t)) at) (to_z-of_z w128 c.in-Some.at fits)
    ∙ ap (λ (d : Option (ℕ × ℤ)). arrives c.args.self.now.scene s w d at) (sym c.in-Some.is))
    (c.arrive_at.ensures.follows s w at h i)

pub returns-in-None-clause-follows : goal.returns-in-None-clause-follows
returns-in-None-clause-follows g c s w at h i =
    gave_none at (arrives c.args.self.now.scene s w c.args.due at) _ (ap (λ (d : Option (ℕ × ℤ)). arrives c.args.self.now.scene s w d at) c.in-None.is) i
