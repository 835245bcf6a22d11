use Rattle.std.proofs.Common.{◌∙◌, ap, ◌∷◌, [], not}
use Rattle.wrp_course.specs.Checks.{told_of, needs}
use Rattle.wrp_premises.proofs.tries.modules.up_again_broken.Goals as goal

pub returns : goal.returns
returns c s w h = c.needs.ensures ∙ ap (λ b. told_of (needs (not b) ∷ [])) (c.is_up-up.ensures s w h)
