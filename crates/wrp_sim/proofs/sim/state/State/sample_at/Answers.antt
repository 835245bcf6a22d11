use Rattle.std.proofs.Common.{◌∙◌, sym}
use Rattle.wrp_sim.specs.Rules.{sample_below, samples}
use Rattle.wrp_sim.proofs.RuleCases.{at_top, below_link}
use Rattle.wrp_sim.proofs.Turns.{gave_none, gives_same}
use Rattle.wrp_sim.proofs.sim.state.State.sample_at.Goals as goal

pub returns-in-Some-clause-follows : goal.returns-in-Some-clause-follows
returns-in-Some-clause-follows g c s w at h i t =
    gives_same at (sample_below c.args.self.now.scene s w at c.args.n c.in-Some.link) (samples c.args.self.now.scene s w at) _ c.sample_over.new.self
    (sym (below_link c.args.self.now.scene s w at c.args.n c.in-Some.link t (sym (c.above.ensures.value s w h) ∙ c.in-Some.is))) (c.sample_over.ensures.follows s w at h i)

pub returns-in-None-clause-follows : goal.returns-in-None-clause-follows
returns-in-None-clause-follows g c s w at h i t =
    gave_none at (samples c.args.self.now.scene s w at) _ (at_top c.args.self.now.scene s w at c.args.n t (sym (c.above.ensures.value s w h) ∙ c.in-None.is)) i
