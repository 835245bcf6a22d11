-- The first of the ends of the links that are left, and of what was found, is the first of all.
use Rattle.std.proofs.Common.{◌≡◌, ◌-◌, ◌<◌, fold, length, None, IfSome}
use Rattle.wrp_course.specs.Setting.{Setting, from_on}
use Rattle.wrp_world.specs.StandsFor.{StandsFor}
use Rattle.wrp_course.specs.WorldAt.{WorldAt}
use Rattle.wrp_sim.specs.Departures.{IsDeparture, departing_over}
use Rattle.wrp_sim.proofs.sim.departing.first_at_ends.Given as goal

abbrev pub invariant-loop-link : goal.invariant-loop-link
invariant-loop-link g l =
    IfSome l.first IsDeparture × IfSome l.first (λ d. d.node < length l.fn.world.nodes)
    × ((s : Setting) (w : WorldAt) → StandsFor (λ f x y. g.F.Fn.post f (x, tt) y) s w l.fn.world →
    fold (departing_over s w) l.first (from_on (l.count - l.link) l.link) ≡ fold (departing_over s w) None (from_on l.count 0))
