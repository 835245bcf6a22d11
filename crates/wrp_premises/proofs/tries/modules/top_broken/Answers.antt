use Rattle.std.proofs.Common.{◌∙◌, ap₂, ◌∷◌, [], pos, arith}
use Rattle.wrp_course.specs.Checks.{told_of, at_most, only_where, size_of}
use Rattle.wrp_plant.proofs.SignedReads.{read}
use Rattle.wrp_premises.proofs.tries.modules.top_broken.Goals as goal

pub returns : goal.returns
returns c s w h =
    c.true_at_top.ensures
    ∙ ap₂ (λ b o. told_of (only_where b (at_most 3 (size_of o) (pos 0)) ∷ [])) (c.is_top-is_top.ensures s w h) (read c.args.off (omega (arith, c.requires.off)))
