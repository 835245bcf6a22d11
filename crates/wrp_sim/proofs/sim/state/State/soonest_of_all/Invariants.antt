-- The soonest of the tick times that are left is the soonest of all; it is after now.
use Rattle.std.proofs.Common.{◌≡◌, ◌-◌, ◌≤◌, ◌^◌, unsigned_abs, fold, map, filter}
use Rattle.std.proofs.Common.{◌<ℤ◌, ◌≤ℤ◌}
use Rattle.wrp_course.specs.Setting.{Setting, from_on}
use Rattle.wrp_world.specs.StandsFor.{StandsFor}
use Rattle.wrp_course.specs.WorldAt.{WorldAt}
use Rattle.wrp_sim.specs.Rules.{sooner}
use Rattle.wrp_sim.specs.Sim.{SimIs}
use Rattle.wrp_sim.specs.SimAt.{SimAt}
use Rattle.wrp_sim.proofs.sim.state.State.soonest_of_all.Given as goal

abbrev pub invariant-loop-n : goal.invariant-loop-n
invariant-loop-n g l =
    (l.fn.now <ℤ l.best) × (l.best ≤ℤ l.fn.other) × (unsigned_abs l.best ≤ 2 ^ 101)
    × ((s : Setting) (w : WorldAt) (at : SimAt) → StandsFor (λ f x y. g.F.Fn.post f (x, tt) y) s w l.fn.world → SimIs at l.fn.self →
    fold (sooner l.fn.now) l.best (map at.tick_at (filter (λ n. (w.clock n).up) (from_on (l.count - l.n) l.n)))
    ≡ fold (sooner l.fn.now) l.fn.other (map at.tick_at (filter (λ n. (w.clock n).up) (from_on l.count 0))))
