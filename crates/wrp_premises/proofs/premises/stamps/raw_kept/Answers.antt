use Rattle.std.proofs.Common.{◌∙◌, sym, ap, ap₂, ◌∷◌, [], pos, ◌+ℤ◌, ◌/◌, arith}
use Rattle.std.specs.Option.{option_or}
use Rattle.wrp_base.specs.Circle.{distance_round}
use Rattle.wrp_base.specs.Clock.{period_of}
use Rattle.wrp_base.specs.Division.{floor_quotient}
use Rattle.wrp_stamp.specs.Merge.{place_of}
use Rattle.wrp_stamp.specs.StampBound.{true_place}
use Rattle.wrp_course.specs.Checks.{told_of, at_most, only_where}
use Rattle.wrp_course.specs.Premises.{may_rise, may_fall, counter_check}
use Rattle.wrp_plant.proofs.SignedReads.{read}
use Rattle.wrp_course.proofs.Told.{told_three}
use Rattle.wrp_premises.proofs.premises.stamps.raw_kept.Goals as goal

pub returns : goal.returns
returns c =
    let told = read c.told_place-told.result (omega (arith, c.told_place-told.ensures.size)) in
    let reading = read c.args.reading (omega (arith, c.requires.reading)) in
    let place = c.true_place-place.ensures.value ∙ ap (true_place c.args.clock) reading in
    let tag = c.tag_kept.ensures ∙ ap₂ (λ t p. told_of (at_most 8 (pos (distance_round c.args.clock t (pos p))) (pos c.args.e_tag) ∷ [])) (told ∙ c.told_place-told.ensures.value) place in
    let rising = c.rising_kept.ensures ∙ ap₂ (λ p r. told_of (only_where (may_rise c.args.clock c.args.e_tag p) (counter_check c.args.raw.now.rising (floor_quotient r (pos (period_of c.args.clock)))) ∷ [])) place reading in
    let falling = c.falling_kept.ensures ∙ ap₂ (λ p r. told_of (only_where (may_fall c.args.clock c.args.e_tag p) (counter_check c.args.raw.now.falling (floor_quotient (r +ℤ pos (period_of c.args.clock / 2)) (pos (period_of c.args.clock)))) ∷ [])) place reading in
    c.or-2.ensures ∙ ap₂ option_or (c.or.ensures ∙ ap₂ option_or tag rising) falling ∙ sym (told_three
    (at_most 8 (pos (distance_round c.args.clock (pos (place_of c.args.clock c.args.raw.now.tag c.args.transition)) (pos (true_place c.args.clock c.args.reading)))) (pos c.args.e_tag))
    (only_where (may_rise c.args.clock c.args.e_tag (true_place c.args.clock c.args.reading)) (counter_check c.args.raw.now.rising (floor_quotient c.args.reading (pos (period_of c.args.clock)))))
    (only_where (may_fall c.args.clock c.args.e_tag (true_place c.args.clock c.args.reading)) (counter_check c.args.raw.now.falling (floor_quotient (c.args.reading +ℤ pos (period_of c.args.clock / 2)) (pos (period_of c.args.clock))))))
