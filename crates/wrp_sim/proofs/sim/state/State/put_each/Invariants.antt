-- The drifts of the nodes so far are in their places.
use Rattle.std.proofs.Common.{◌≡◌, map, take}
use Rattle.wrp_course.specs.Setting.{Setting, from_on}
use Rattle.wrp_world.specs.StandsFor.{StandsFor}
use Rattle.wrp_course.specs.WorldAt.{WorldAt}
use Rattle.wrp_sim.specs.Rules.{drift_over}
use Rattle.wrp_sim.proofs.sim.state.State.put_each.Given as goal

abbrev pub invariant-loop-n : goal.invariant-loop-n
invariant-loop-n g l =
    (s : Setting) (w : WorldAt) → StandsFor (λ f x y. g.F.Fn.post f (x, tt) y) s w l.fn.world →
    take l.n l.drifts ≡ map (drift_over l.fn.self.scene s w l.fn.dt) (from_on l.n 0)
