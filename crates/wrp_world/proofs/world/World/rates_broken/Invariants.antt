-- The first check that fails among the remaining nodes is the first among all.
use Rattle.std.proofs.Common.{◌≡◌, ◌-◌, flat_map}
use Rattle.wrp_course.specs.Checks.{told_of}
use Rattle.wrp_course.specs.Premises.{rate_kept}
use Rattle.wrp_course.specs.Setting.{Setting, from_on}
use Rattle.wrp_world.specs.StandsFor.{StandsFor}
use Rattle.wrp_course.specs.WorldAt.{WorldAt}
use Rattle.wrp_world.proofs.world.World.rates_broken.Given as goal

abbrev pub invariant-loop-n : goal.invariant-loop-n
invariant-loop-n g l =
    (s : Setting) (w : WorldAt) → StandsFor (λ f x y. g.F.Fn.post f (x, tt) y) s w l.fn.self →
    told_of (flat_map (rate_kept s w l.fn.dt l.fn.drifts.items) (from_on (l.count - l.n) l.n))
    ≡ told_of (flat_map (rate_kept s w l.fn.dt l.fn.drifts.items) (from_on l.count 0))
