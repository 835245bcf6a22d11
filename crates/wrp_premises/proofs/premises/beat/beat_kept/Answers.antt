use Rattle.std.proofs.Common.{◌∙◌, ap, map}
use Rattle.std.proofs.lemmas.Int.{to_z-of_z}
use Rattle.std.specs.Int.{w32, w128}
use Rattle.wrp_phase.specs.BeatPattern.{true_step, steps_past}
use Rattle.wrp_course.specs.Checks.{told_of}
use Rattle.wrp_course.specs.Premises.{bit_check}
use Rattle.wrp_course.specs.Setting.{from_on}
use Rattle.wrp_premises.proofs.premises.beat.beat_kept.Goals as goal

pub returns : goal.returns
returns c =
    c.bits_kept.ensures
    ∙ ap (λ s. told_of (map (bit_check s c.args.beat c.args.bits) (from_on 64 0)))
    (to_z-of_z w32 c.steps_past.result (record { sfits = c.steps_past.type_inv }) ∙ c.steps_past.ensures.value
    ∙ ap (λ t. steps_past t c.args.base) (c.true_step.ensures.value ∙ ap (true_step c.args.clock) (to_z-of_z w128 c.args.phase c.ranges.phase)))
