use Rattle.std.proofs.Common.{◌∙◌, ap, subst, ℤ, map}
use Rattle.std.proofs.lemmas.Int.{to_z-of_z}
use Rattle.std.specs.Int.{w64}
use Rattle.wrp_course.specs.Setting.{nodes_of}
use Rattle.wrp_sim.specs.Rules.{drift_over}
use Rattle.wrp_sim.specs.Sim.{IsPassOf}
use Rattle.wrp_sim.proofs.sim.state.State.put_all_drifts.Goals as goal

pub returns-in-Pass : goal.returns-in-Pass
returns-in-Pass g c s w h = (
  subst (IsPassOf c.args.dt) c.in-Pass.is c.requires.pass,
  c.put_drifts.ensures s w h ∙ ap (λ (t : ℤ). map (drift_over c.args.self.now.scene s w t) (nodes_of s)) (to_z-of_z w64 c.args.dt c.ranges.dt),
)
