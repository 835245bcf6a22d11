-- A measurement that is not too short is kept, reported and steered against.
use Rattle.std.proofs.Common.{◌≡◌, ℤ, ◌^◌, ◌≤◌, ◌≤ℤ◌, ◌∷◌, unsigned_abs, to_z, of_z, FitsSigned, false, ap, ap₂, ◌∙◌, sym, arith}
use Rattle.std.specs.Int.{w64, w128}
use lib.Signed.{lt_z}
use Rattle.std.proofs.lemmas.Int.{ints, to_z-of_z, fits_signed_from_abs}
use Rattle.wrp_plain.specs.declared.settings.PlainSet.{PlainSet}
use Rattle.wrp_plain.specs.Measurement.{round_of, least_round}
use Rattle.wrp_plain.specs.Call.{CallMeasured}
use Rattle.wrp_plain.specs.Report.{command_of}
use Rattle.wrp_plain.specs.StandsFor.{StandsFor}
use Rattle.wrp_plain.proofs.Adding.{report_of-is}
use Rattle.wrp_plain.proofs.servo.Plain.measured.Goals as goal

same_command : (a : ℤ) → unsigned_abs a ≤ 2 ^ 60 → to_z w64 (of_z w64 a) ≡ a
same_command a h = to_z-of_z w64 a (fits_signed_from_abs w64 a (omega arith))

fits : (a : ℤ) → unsigned_abs a ≤ 2 ^ 63 → FitsSigned w128 a
fits a h = fits_signed_from_abs w128 a (omega arith)

not_less : (a b : ℤ) → lt_z a b ≡ false → b ≤ℤ a
not_less a b h = grind (arith, ints)

at_most : (a b least round : ℤ) → unsigned_abs a ≤ 2 ^ 60 → unsigned_abs b ≤ 2 ^ 63 → a ≡ least → b ≡ round →
    lt_z (to_z w128 (of_z w128 b)) (to_z w128 (of_z w128 a)) ≡ false → least ≤ℤ round
at_most a b least round small_a small_b is is' h =
    let same_a : to_z w128 (of_z w128 a) ≡ least = to_z-of_z w128 a (fits a (omega arith)) ∙ is in
    let same_b : to_z w128 (of_z w128 b) ≡ round = to_z-of_z w128 b (fits b small_b) ∙ is' in
    not_less round least (ap₂ lt_z (sym same_b) (sym same_a) ∙ h)

pub returns-clause-value : goal.returns-clause-value
returns-clause-value c set calls stands =
    let kept : StandsFor set c.keep.new.self (CallMeasured c.args.t1 c.args.t2 c.args.t3 c.args.t4 ∷ calls) =
    c.keep.ensures.stands set c.args.t1 c.args.t2 c.args.t3 c.args.t4 (grind (arith, to_z-of_z, c.round_trip-round.ensures.value)) (grind (arith, to_z-of_z, c.offset.ensures.value)) calls stands in (
      at_most c.least_round-least.result c.round_trip-round.result (least_round set) (round_of c.args.t1 c.args.t2 c.args.t3 c.args.t4)
          c.least_round-least.ensures.small c.round_trip-round.ensures.small
          (c.least_round-least.ensures.value ∙ ap least_round stands.set_is) (grind (arith, to_z-of_z, c.round_trip-round.ensures.value)) c.if-round-least.false,
      sym (c.best-report.ensures.value ∙ report_of-is set c.keep.new.self _ kept),
      same_command c.command-command.result c.command-command.ensures.small ∙ c.command-command.ensures.value
          ∙ ap (λ (s : PlainSet). command_of s c.best-report.result) kept.set_is,
    )

pub returns-clause-stands : goal.returns-clause-stands
returns-clause-stands c set calls stands =
    let kept : StandsFor set c.keep.new.self (CallMeasured c.args.t1 c.args.t2 c.args.t3 c.args.t4 ∷ calls) =
    c.keep.ensures.stands set c.args.t1 c.args.t2 c.args.t3 c.args.t4 (grind (arith, to_z-of_z, c.round_trip-round.ensures.value)) (grind (arith, to_z-of_z, c.offset.ensures.value)) calls stands in
    c.steer.ensures.stands set _ kept
