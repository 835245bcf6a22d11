-- Both worlds stay valid, their events are counted, and the simulator stays one of the first one's network.
use Rattle.std.proofs.Common.{◌≤◌}
use Rattle.wrp_sim.specs.Sim.{FitsSim}
use Rattle.wrp_world.specs.StandsFor.{IsValid}
use Rattle.wrp_carrier_cases.proofs.course.run_sim.Given as goal

abbrev pub invariant-loop-number : goal.invariant-loop-number
invariant-loop-number g l =
    IsValid (λ f x. g.F.Fn.pre f (x, tt)) (λ f x y. g.F.Fn.post f (x, tt) y) l.trial.world
    × (l.trial.world.plant.events ≤ l.trial.came)
    × IsValid (λ f x. g.F.Fn.pre f (x, tt)) (λ f x y. g.F.Fn.post f (x, tt) y) l.twin.world
    × (l.twin.world.plant.events ≤ l.twin.came)
    × FitsSim l.trial.world.plant.net.cfg l.sim
