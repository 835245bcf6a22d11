use Rattle.std.proofs.Common.{◌∙◌, rules, refl, ap, sym, slice_get}
use Rattle.wrp_sim.proofs.sim.Sim.new.Goals as goal

pub returns-clause-is : goal.returns-clause-is
returns-clause-is c = record {
  state = c.new.ensures;
  begun = refl;
  faults = search rules;
  ticks = λ n x e. c.in_ok-tick_at.ensures.none n x (ap (λ ts. slice_get ts n) (sym c.of.ensures) ∙ e);
  ticked = refl;
  arrived = refl;
}
