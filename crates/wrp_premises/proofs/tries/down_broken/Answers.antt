use Rattle.std.proofs.Common.{◌∙◌, ap, ◌∷◌, []}
use Rattle.wrp_course.specs.Checks.{told_of, needs}
use Rattle.wrp_premises.proofs.tries.down_broken.Goals as goal

pub returns : goal.returns
returns c s w h = c.needs.ensures ∙ ap (λ b. told_of (needs b ∷ [])) (c.is_up.ensures s w h)
