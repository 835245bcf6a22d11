use Rattle.std.proofs.Common.{◌∙◌, sym, ap, ap₂, ◌∷◌, [], not, arith}
use Rattle.std.specs.Option.{option_or}
use Rattle.wrp_course.specs.Checks.{told_of, needs}
use Rattle.wrp_course.specs.declared.event.Event.TheVariants.{Join}
use Rattle.wrp_course.specs.Moved.{moved}
use Rattle.wrp_course.specs.Premises.{fibre_kept}
use Rattle.wrp_plant.proofs.SignedReads.{read}
use Rattle.wrp_course.proofs.Told.{told_append}
use Rattle.wrp_premises.proofs.tries.fibres.join_broken.Goals as goal

pub returns : goal.returns
returns c s w says h =
    c.or.ensures ∙ ap₂ option_or
    (c.new_fibre_broken-delays.ensures s w h
    ∙ ap₂ (λ a b. told_of (fibre_kept s (moved s w (Join c.args.k a b)) c.args.k)) (read c.args.ms (omega (arith, c.requires.ms))) (read c.args.sm (omega (arith, c.requires.sm))))
    (c.needs.ensures ∙ ap (λ b. told_of (needs (not b) ∷ [])) (c.joined-joined.ensures s w h))
    ∙ sym (told_append (fibre_kept s (moved s w (Join c.args.k c.args.ms c.args.sm)) c.args.k) (needs (not (w.fibre c.args.k).joined) ∷ []))
