use Rattle.std.proofs.Common.{◌∙◌, sym, ap}
use Rattle.wrp_course.specs.Checks.{told_of}
use Rattle.wrp_course.specs.Premises.{sample_checks}
use Rattle.wrp_premises.proofs.tries.sample_broken.Goals as goal

pub returns-in-Some : goal.returns-in-Some
returns-in-Some c s w h =
    c.beat_broken.ensures s w h
    ∙ ap (λ o. told_of (sample_checks s w c.args.n c.args.base c.args.bits o)) (sym c.in-Some.is ∙ c.above.ensures.value s w h)

pub returns-in-None : goal.returns-in-None
returns-in-None c s w h =
    c.needs.ensures
    ∙ ap (λ o. told_of (sample_checks s w c.args.n c.args.base c.args.bits o)) (sym c.in-None.is ∙ c.above.ensures.value s w h)
