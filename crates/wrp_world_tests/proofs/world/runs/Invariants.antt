-- The world stays valid, and its events are counted.
use Rattle.std.proofs.Common.{◌≤◌}
use Rattle.wrp_world.specs.StandsFor.{IsValid}
use Rattle.wrp_world_tests.proofs.world.runs.Given as goal

abbrev pub invariant-loop-event : goal.invariant-loop-event
invariant-loop-event g l =
    IsValid (λ f x. g.F.Fn.pre f (x, tt)) (λ f x y. g.F.Fn.post f (x, tt) y) l.trial.world
    × (l.trial.world.plant.events ≤ l.trial.came)
