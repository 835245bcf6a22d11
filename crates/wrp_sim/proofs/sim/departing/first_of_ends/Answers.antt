use Rattle.std.proofs.Common.{◌∙◌, ap, ap₂}
use Rattle.wrp_sim.specs.Departures.{first_of_two}
use Rattle.wrp_sim.proofs.Leaving.{of_both}
use Rattle.wrp_sim.proofs.sim.departing.first_of_ends.Goals as goal

pub returns-clause-value : goal.returns-clause-value
returns-clause-value g c s w h =
    c.first_of_two.ensures
    ∙ ap₂ first_of_two (c.first_of_two-first.ensures ∙ ap (first_of_two c.args.first) (c.departing_at.ensures.value s w h)) (c.departing_at-2.ensures.value s w h)

pub returns-clause-range : goal.returns-clause-range
returns-clause-range g c = of_both _ _ _ _ c.first_of_two.ensures (of_both _ _ _ _ c.first_of_two-first.ensures c.requires.range c.departing_at.ensures.range) c.departing_at-2.ensures.range

pub returns-clause-node : goal.returns-clause-node
returns-clause-node g c = of_both _ _ _ _ c.first_of_two.ensures (of_both _ _ _ _ c.first_of_two-first.ensures c.requires.node c.departing_at.ensures.node) c.departing_at-2.ensures.node
