use Rattle.std.proofs.Common.{◌∙◌, sym}
use Rattle.wrp_sim.specs.Rules.{samples}
use Rattle.wrp_sim.proofs.RuleCases.{untold}
use Rattle.wrp_sim.proofs.Turns.{gave_none}
use Rattle.wrp_sim.proofs.sim.state.State.sample.Goals as goal

pub returns-in-Some-clause-follows : goal.returns-in-Some-clause-follows
returns-in-Some-clause-follows g c s w at h i = c.sample_at.ensures.follows s w at h i (sym i.ticked ∙ c.in-Some.is)

pub returns-in-None-clause-follows : goal.returns-in-None-clause-follows
returns-in-None-clause-follows g c s w at h i = gave_none at (samples c.args.self.now.scene s w at) _ (untold c.args.self.now.scene s w at (sym i.ticked ∙ c.in-None.is)) i
