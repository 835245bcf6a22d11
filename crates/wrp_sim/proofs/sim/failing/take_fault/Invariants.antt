-- The faults before the current place have not come, and those from it on are still to be tried.
use Rattle.std.proofs.Common.{◌-◌, length}
use Rattle.std.specs.List.{AllByRecursion}
use Rattle.wrp_course.specs.Setting.{Setting}
use Rattle.wrp_world.specs.StandsFor.{StandsFor}
use Rattle.wrp_course.specs.WorldAt.{WorldAt}
use Rattle.wrp_scene.specs.Scenario.{IsFault}
use Rattle.wrp_sim.proofs.Faults.{Left}
use Rattle.wrp_sim.proofs.sim.failing.take_fault.Given as goal

abbrev pub invariant-tried : goal.invariant-tried
invariant-tried g l =
    AllByRecursion (IsFault l.fn.world.plant.net.cfg) l.faults.items
    × ((s : Setting) (w : WorldAt) → StandsFor (λ f x y. g.F.Fn.post f (x, tt) y) s w l.fn.world → Left s w l.fn.faults.items l.faults.items l.i)

abbrev pub decreases-tried : goal.decreases-tried
decreases-tried g l = length l.faults.items - l.i
