use Rattle.std.proofs.Common.{◌≡◌, ℤ, arith, subst, ap, ◌∙◌, to_z, of_z}
use Rattle.std.specs.Int.{w64}
use Rattle.wrp_servo.specs.Measuring.{deltas_in_chain, placed, kept_of}
use Rattle.std.proofs.lemmas.Int.{ints}
use Rattle.wrp_servo.specs.Sizes.{FitsFour}
use Rattle.wrp_servo.proofs.ValidLaws.{becomes_placed}
use Rattle.wrp_servo.proofs.valid.Machine.take_four.Goals as goal

pub invariant_of-self : goal.invariant_of-self
invariant_of-self c =
    let same : to_z w64 (of_z w64 c.args.answer) ≡ c.args.answer = omega (arith, ints) in
    let made : c.kept_by.result ≡ kept_of c.args.four.now c.args.deltas.now c.args.answer = c.kept_by.ensures.value ∙ ap (λ (z : ℤ). kept_of c.args.four.now c.args.deltas.now z) same in
    becomes_placed c.self.inside.core _ c.args.four.now c.args.deltas.now c.args.answer (subst FitsFour made c.kept_by.ensures.fits) c.self.invariant
    (ap deltas_in_chain c.self.view_is ∙ c.requires.deltas_in_chain)
    (c.place.ensures.value ∙ ap (placed c.self.inside.core) made)
