use Rattle.std.proofs.Common.{◌∙◌, ap, ap₂}
use Rattle.std.proofs.lemmas.Int.{to_z-of_z}
use Rattle.std.specs.Int.{w64}
use Rattle.wrp_course.specs.Checks.{told_of}
use Rattle.wrp_course.specs.Premises.{rate_checks}
use Rattle.wrp_world.proofs.world.World.drift_broken.Goals as goal

pub returns : goal.returns
returns g c s w h =
    c.rate_kept.ensures
    ∙ ap₂ (λ d t. told_of (rate_checks d t c.rate-rate.result)) (to_z-of_z w64 c.args.drift c.ranges.drift) (to_z-of_z w64 c.args.dt c.ranges.dt)
    ∙ ap (λ r. told_of (rate_checks c.args.drift c.args.dt r)) (c.rate-rate.ensures.value s w h)
