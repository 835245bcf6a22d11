use Rattle.std.proofs.Common.{◌∙◌, ap, ◌∷◌, []}
use Rattle.std.specs.Option.{option_or}
use Rattle.wrp_course.specs.Checks.{told_of, needs}
use Rattle.wrp_premises.proofs.handing.carrier_broken.Goals as goal

pub returns : goal.returns
returns c s w h =
    c.or.ensures ∙ ap (option_or c.args.so_far) (c.needs.ensures ∙ ap (λ b. told_of (needs b ∷ [])) (c.has_carrier-carrier.ensures s w h))
