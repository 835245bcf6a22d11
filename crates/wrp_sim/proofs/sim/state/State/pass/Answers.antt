use Rattle.std.proofs.Common.{rules, ◌∙◌, ap, sym, ℤ, ◌-ℤ◌, FitsSigned}
use Rattle.std.proofs.lemmas.Int.{to_z-of_z}
use Rattle.std.specs.Int.{w64}
use Rattle.wrp_sim.specs.Rules.{comes, moments, next_moment, pass_of, passes}
use Rattle.wrp_sim.proofs.RuleCases.{goes_on}
use Rattle.wrp_sim.proofs.Turns.{gives_same}
use Rattle.wrp_sim.proofs.sim.state.State.pass.Goals as goal

pub returns-clause-follows : goal.returns-clause-follows
returns-clause-follows g c s w at h i =
    let fits : FitsSigned w64 c.wait-dt.result = search rules in
    let wait = next_moment w.time (moments c.args.self.now.scene s w c.args.due at) -ℤ w.time in
    let dt = to_z-of_z w64 c.wait-dt.result fits ∙ c.wait-dt.ensures s w at h i in
    gives_same at (comes (pass_of c.args.self.now.scene s w wait) at) (passes c.args.self.now.scene s w c.args.due at) _ c.comes.new.self
    (sym (goes_on c.args.self.now.scene s w c.args.due at (sym (c.is_over.ensures s w h) ∙ c.if-is_over.false)))
    (c.put_pass.ensures s w h ∙ ap (λ (t : ℤ). pass_of c.args.self.now.scene s w t) dt, c.comes.ensures.follows at i)

pub returns-clause-stays : goal.returns-clause-stays
returns-clause-stays g c = c.comes.ensures.stays c.args.world.now.plant.net.cfg c.requires.fits
