use Rattle.std.proofs.Common.{◌∙◌, sym, option_and_then}
use Rattle.wrp_course.specs.Setting.{link_of}
use Rattle.wrp_sim.specs.Rules.{after_draw, comes, sample_below, sample_of}
use Rattle.wrp_sim.proofs.RuleCases.{dark, lit}
use Rattle.wrp_sim.proofs.Turns.{gave_none, gives_same}
use Rattle.wrp_sim.proofs.sim.state.State.sample_over.Goals as goal

pub returns-then-has_carrier-clause-follows : goal.returns-then-has_carrier-clause-follows
returns-then-has_carrier-clause-follows g c s w at h i =
    gives_same at (option_and_then (λ l. comes (sample_of c.args.self.now.scene s w c.args.n c.args.k l at.state) (after_draw at)) (link_of s c.args.k))
    (sample_below c.args.self.now.scene s w at c.args.n c.args.k) _ c.sample_below.new.self
    (sym (lit c.args.self.now.scene s w at c.args.n c.args.k (sym (c.has_carrier.ensures s w h) ∙ c.if-has_carrier.true))) (c.sample_below.ensures.follows s w at h i)

pub returns-else-has_carrier-clause-follows : goal.returns-else-has_carrier-clause-follows
returns-else-has_carrier-clause-follows g c s w at h i =
    gave_none at (sample_below c.args.self.now.scene s w at c.args.n c.args.k) _ (dark c.args.self.now.scene s w at c.args.n c.args.k (sym (c.has_carrier.ensures s w h) ∙ c.if-has_carrier.false)) i
