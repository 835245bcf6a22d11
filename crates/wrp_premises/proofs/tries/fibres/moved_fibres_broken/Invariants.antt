-- The first check that fails among the remaining links is the first among all.
use Rattle.std.proofs.Common.{◌≡◌, ◌-◌, ℤ, flat_map}
use Rattle.arrayvec.specs.ArrayVec.{ArrayVec}
use Rattle.wrp_course.specs.Checks.{told_of}
use Rattle.wrp_course.specs.declared.event.Event.TheVariants.{Pass}
use Rattle.wrp_course.specs.Moved.{moved}
use Rattle.wrp_plant.specs.Plant.{PlantIs}
use Rattle.wrp_course.specs.Premises.{fibre_kept}
use Rattle.wrp_course.specs.Setting.{Setting, from_on}
use Rattle.wrp_course.specs.WorldAt.{WorldAt}
use Rattle.wrp_premises.proofs.tries.fibres.moved_fibres_broken.Given as goal

abbrev pub invariant-loop-k : goal.invariant-loop-k
invariant-loop-k l =
    (s : Setting) (w : WorldAt) (dt : ℤ) (drifts : ArrayVec ℤ) → PlantIs s w l.fn.plant →
    told_of (flat_map (fibre_kept s (moved s w (Pass dt drifts l.fn.moves))) (from_on (l.count - l.k) l.k))
    ≡ told_of (flat_map (fibre_kept s (moved s w (Pass dt drifts l.fn.moves))) (from_on l.count 0))
