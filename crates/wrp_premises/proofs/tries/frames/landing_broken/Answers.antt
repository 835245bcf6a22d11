use Rattle.std.proofs.Common.{◌∙◌, ap, ◌∷◌, [], pos, ◌-ℤ◌, arith}
use Rattle.std.specs.Option.{option_or}
use Rattle.wrp_course.specs.Checks.{told_of, at_most, size_of, needs}
use Rattle.wrp_premises.specs.Tried.{received_to}
use Rattle.wrp_course.specs.WorldAt.{has_carrier}
use Rattle.wrp_plant.proofs.SignedReads.{read}
use Rattle.wrp_premises.proofs.TriedFrames.{landing_told}
use Rattle.wrp_premises.proofs.tries.frames.landing_broken.Goals as goal

pub returns : goal.returns
returns c s w i h f k =
    landing_told s w i c.args.raw.now f c.args.frame.now c.due_broken-due.result c.raw_broken-stamp.result c.carrier_broken.result k
    (c.due_broken-due.ensures s w h ∙ ap (λ t. told_of (at_most 8 (size_of (w.time -ℤ t)) (pos 0) ∷ [])) (read c.args.frame.now.due (omega (arith, c.requires.due))))
    (c.raw_broken-stamp.ensures s w h ∙ ap (λ to. told_of (received_to s w to c.args.raw.now)) c.across.ensures)
    (c.carrier_broken.ensures s w h ∙ ap (λ o. option_or o (told_of (needs (has_carrier s w c.args.frame.now.link) ∷ []))) c.or.ensures)
