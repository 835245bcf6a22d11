use Rattle.std.proofs.Common.{◌∙◌, sym, ap₂, arith}
use Rattle.wrp_course.specs.Checks.{told_of}
use Rattle.wrp_premises.specs.Tried.{departs_by}
use Rattle.wrp_plant.proofs.SignedReads.{read}
use Rattle.wrp_premises.proofs.TriedFrames.{leaves_told, none_leaves_told}
use Rattle.wrp_premises.proofs.tries.frames.leaving_broken.Goals as goal

pub returns-in-Some : goal.returns-in-Some
returns-in-Some c s w h =
    c.departing_broken.ensures s w h
    ∙ ap₂ (λ x y. told_of (departs_by s w c.args.n c.args.place.link x y)) (read c.args.stamp (omega (arith, c.requires.stamp))) (read c.in-Some.sent (omega (arith, c.in-Some.ensures.size)))
    ∙ leaves_told s w c.args.n c.args.stamp c.in-Some.sent c.args.place (w.end_at c.args.place.link c.args.place.role).waiting (sym c.in-Some.is ∙ c.oldest_at.ensures.value s w h)

pub returns-in-None : goal.returns-in-None
returns-in-None c s w h =
    c.not_sent_broken.ensures s w h
    ∙ none_leaves_told s w c.args.n c.args.stamp c.args.place (w.end_at c.args.place.link c.args.place.role).waiting (sym c.in-None.is ∙ c.oldest_at.ensures.value s w h)
