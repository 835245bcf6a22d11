-- The first check that fails among the remaining ports is the first among all.
use Rattle.std.proofs.Common.{◌≡◌, drop, map}
use Rattle.wrp_course.specs.Checks.{told_of}
use Rattle.wrp_plant.specs.Plant.{PlantIs}
use Rattle.wrp_course.specs.Premises.{swap_is_placed}
use Rattle.wrp_course.specs.Setting.{Setting}
use Rattle.wrp_course.specs.WorldAt.{WorldAt}
use Rattle.wrp_premises.proofs.tries.modules.ports_broken.Given as goal

abbrev pub invariant-loop-swap : goal.invariant-loop-swap
invariant-loop-swap l =
    (s : Setting) (w : WorldAt) → PlantIs s w l.fn.plant →
    told_of (map (swap_is_placed s l.fn.n) (drop l.swap-index l.fn.swaps)) ≡ told_of (map (swap_is_placed s l.fn.n) l.fn.swaps)
