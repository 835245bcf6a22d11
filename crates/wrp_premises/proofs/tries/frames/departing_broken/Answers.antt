use Rattle.std.proofs.Common.{◌∙◌, sym, ap, ap₂, ◌∷◌, [], pos, ◌-ℤ◌, arith}
use Rattle.std.specs.Option.{option_or}
use Rattle.wrp_bounds.specs.Times.{frame_life}
use Rattle.wrp_course.specs.Checks.{told_of, at_most, size_of, needs}
use Rattle.wrp_course.specs.Setting.{of_node}
use Rattle.wrp_course.specs.WorldAt.{has_carrier, reading}
use Rattle.wrp_plant.proofs.SignedReads.{read}
use Rattle.wrp_course.proofs.Told.{told_three}
use Rattle.wrp_premises.proofs.tries.frames.departing_broken.Goals as goal

pub returns : goal.returns
returns c s w h =
    c.carrier_broken.ensures s w h
    ∙ ap (λ o. option_or o (told_of (needs (has_carrier s w c.args.k) ∷ [])))
    (c.or.ensures ∙ ap₂ option_or
    (c.stamp_broken-stamp.ensures s w h ∙ ap (λ x. told_of (at_most 7 (size_of (x -ℤ reading w c.args.n)) (pos (of_node (λ node. node.e_tx) s c.args.n)) ∷ [])) (read c.args.stamp (omega (arith, c.requires.stamp))))
    (c.age_broken-age.ensures s w h ∙ ap (λ x. told_of (at_most 10 (w.time -ℤ x) (pos (frame_life s.cfg)) ∷ [])) (read c.args.sent (omega (arith, c.requires.sent)))))
    ∙ sym (told_three (at_most 7 (size_of (c.args.stamp -ℤ reading w c.args.n)) (pos (of_node (λ node. node.e_tx) s c.args.n)))
    (at_most 10 (w.time -ℤ c.args.sent) (pos (frame_life s.cfg))) (needs (has_carrier s w c.args.k)))
