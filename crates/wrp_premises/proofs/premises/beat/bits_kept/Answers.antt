use Rattle.std.proofs.Common.{◌∙◌, ap, map}
use Rattle.std.proofs.lemmas.Int.{to_z-of_z}
use Rattle.std.specs.Int.{w32}
use Rattle.wrp_course.specs.Checks.{told_of}
use Rattle.wrp_course.specs.Premises.{bit_check}
use Rattle.wrp_course.specs.Setting.{from_on}
use Rattle.wrp_premises.proofs.BeatBits.{none_told}
use Rattle.wrp_premises.proofs.premises.beat.bits_kept.Goals as goal

pub returns-then-are_right : goal.returns-then-are_right
returns-then-are_right c =
    none_told _ c.args.beat c.args.bits (c.are_right.ensures c.if-are_right.true)
    ∙ ap (λ s. told_of (map (bit_check s c.args.beat c.args.bits) (from_on 64 0))) (to_z-of_z w32 c.args.steps c.ranges.steps)

pub returns-else-are_right : goal.returns-else-are_right
returns-else-are_right c =
    c.first_wrong.ensures
    ∙ ap (λ s. told_of (map (bit_check s c.args.beat c.args.bits) (from_on 64 0))) (to_z-of_z w32 c.args.steps c.ranges.steps)
