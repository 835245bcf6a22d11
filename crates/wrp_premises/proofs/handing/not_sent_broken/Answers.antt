use Rattle.std.proofs.Common.{◌∙◌, ap, ◌∷◌, []}
use Rattle.wrp_course.specs.Checks.{told_of, not_sent}
use Rattle.wrp_premises.proofs.handing.not_sent_broken.Goals as goal

pub returns : goal.returns
returns c s w h =
    c.not_sent.ensures ∙ ap (λ n. told_of (not_sent c.args.number n ∷ [])) (c.frame_count-count.ensures s w h)
