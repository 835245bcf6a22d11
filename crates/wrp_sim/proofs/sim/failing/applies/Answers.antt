use Rattle.std.proofs.Common.{◌∙◌, ap, sym, not}
use Rattle.wrp_sim.specs.Rules.{applies}
use Rattle.wrp_sim.proofs.sim.failing.applies.Goals as goal

pub returns-in-Down : goal.returns-in-Down
returns-in-Down g c s w h = c.is_up.ensures s w h ∙ sym (ap (applies w) c.in-Down.is)

pub returns-in-Up : goal.returns-in-Up
returns-in-Up g c s w h = ap not (c.is_up-in-Up.ensures s w h) ∙ sym (ap (applies w) c.in-Up.is)

pub returns-in-Cut : goal.returns-in-Cut
returns-in-Cut g c s w h = c.joined.ensures s w h ∙ sym (ap (applies w) c.in-Cut.is)

pub returns-in-Join : goal.returns-in-Join
returns-in-Join g c s w h = ap not (c.joined-in-Join.ensures s w h) ∙ sym (ap (applies w) c.in-Join.is)
