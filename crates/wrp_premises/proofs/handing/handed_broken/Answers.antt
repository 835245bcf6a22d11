use Rattle.std.proofs.Common.{◌≡◌, ◌∙◌, sym, subst, ap, ◌∷◌, [], ◌-ℤ◌, pos, to_z, of_z, arith}
use Rattle.std.specs.Int.{w128}
use Rattle.wrp_bounds.specs.Times.{frame_life}
use Rattle.wrp_course.specs.Checks.{told_of, at_most}
use Rattle.wrp_plant.specs.Sizes.{IsTime}
use Rattle.wrp_premises.proofs.HandedFrames.{old_told, young_told}
use Rattle.wrp_plant.proofs.SignedReads.{read}
use Rattle.wrp_plant.proofs.Sizing.{time_size}
use Rattle.wrp_premises.proofs.handing.handed_broken.Goals as goal

-- the time is in range
size : (c : goal.Start) → IsTime c.args.sent
size c = time_size c.args.plant.now.events c.args.sent c.requires.fits.events (c.requires.fits.frames.sent c.args.number c.args.sent c.requires.sent)

same : (c : goal.Start) → to_z w128 (of_z w128 c.args.sent) ≡ c.args.sent
same c = let small = size c in read c.args.sent (omega (arith, small))

pub age_broken-requires-clause-sent : goal.age_broken-requires-clause-sent
age_broken-requires-clause-sent c = subst IsTime (sym (same c)) (size c)

pub returns-in-Some : goal.returns-in-Some
returns-in-Some c s w h =
    let small = time_size c.args.plant.now.events c.args.sent c.requires.fits.events (c.requires.fits.frames.sent c.args.number c.args.sent c.requires.sent) in
    old_told s w c.args.number c.args.plant.now.frames c.args.sent c.age_broken.result c.in-Some.breach h.frames c.requires.sent
    (c.age_broken.ensures s w h ∙ ap (λ t. told_of (at_most 10 (w.time -ℤ t) (pos (frame_life s.cfg)) ∷ [])) (read c.args.sent (omega (arith, small)))) c.in-Some.is

pub returns-in-None : goal.returns-in-None
returns-in-None c s w h =
    let small = time_size c.args.plant.now.events c.args.sent c.requires.fits.events (c.requires.fits.frames.sent c.args.number c.args.sent c.requires.sent) in
    young_told s w c.args.number c.args.plant.now.frames c.args.sent c.age_broken.result c.young_broken.result h.frames c.requires.sent
    (c.age_broken.ensures s w h ∙ ap (λ t. told_of (at_most 10 (w.time -ℤ t) (pos (frame_life s.cfg)) ∷ [])) (read c.args.sent (omega (arith, small)))) c.in-None.is
    (λ f e told. c.young_broken.ensures s w h f e told)
