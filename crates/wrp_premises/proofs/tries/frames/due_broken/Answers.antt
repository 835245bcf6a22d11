use Rattle.std.proofs.Common.{◌∙◌, ap₂, ◌∷◌, [], pos, ◌-ℤ◌, arith}
use Rattle.wrp_course.specs.Checks.{told_of, at_most, size_of}
use Rattle.wrp_plant.proofs.SignedReads.{read}
use Rattle.wrp_premises.proofs.tries.frames.due_broken.Goals as goal

pub returns : goal.returns
returns c s w h =
    c.on_time.ensures
    ∙ ap₂ (λ a b. told_of (at_most 8 (size_of (a -ℤ b)) (pos 0) ∷ []))
    (read c.now-now.result (omega (arith, c.now-now.ensures.size)) ∙ c.now-now.ensures.value ∙ h.time)
    (read c.args.due (omega (arith, c.requires.due)))
