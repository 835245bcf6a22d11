-- The soonest of the times of the faults that are left is the soonest of all; it is after now.
use Rattle.std.proofs.Common.{◌≡◌, ◌≤◌, ◌^◌, ◌<ℤ◌, ◌≤ℤ◌, unsigned_abs, fold, map, drop}
use Rattle.wrp_course.specs.Setting.{Setting}
use Rattle.wrp_world.specs.StandsFor.{StandsFor}
use Rattle.wrp_course.specs.WorldAt.{WorldAt}
use Rattle.wrp_sim.specs.Rules.{fault_time, sooner}
use Rattle.wrp_sim.proofs.sim.state.State.soonest_fault.Given as goal

abbrev pub invariant-loop-fault : goal.invariant-loop-fault
invariant-loop-fault g l =
    (l.fn.now <ℤ l.best) × (l.best ≤ℤ l.fn.other) × (unsigned_abs l.best ≤ 2 ^ 101)
    × ((s : Setting) (w : WorldAt) → StandsFor (λ f x y. g.F.Fn.post f (x, tt) y) s w l.fn.world →
    fold (sooner l.fn.now) l.best (map (fault_time s) (drop l.fault-index l.fn.self.faults.items))
    ≡ fold (sooner l.fn.now) l.fn.other (map (fault_time s) l.fn.self.faults.items))
