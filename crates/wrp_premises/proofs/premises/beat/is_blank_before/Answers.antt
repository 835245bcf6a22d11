use Rattle.std.proofs.Common.{◌∙◌, ap, unsigned_abs}
use Rattle.std.proofs.lemmas.Int.{to_z-of_z}
use Rattle.std.specs.Int.{leading_zeros, w32, w64}
use Rattle.wrp_premises.proofs.BeatBits.{before_first, zeros_before}
use Rattle.wrp_premises.proofs.premises.beat.is_blank_before.Goals as goal

pub returns-else-first-lt0 : goal.returns-else-first-lt0
returns-else-first-lt0 c h i l below =
    zeros_before c.args.bits c.ranges.bits.fits i
    (before_first c.args.first c.unsigned_abs.result (leading_zeros w64 c.args.bits) i
    (c.unsigned_abs.ensures.value ∙ ap unsigned_abs (to_z-of_z w32 c.args.first c.ranges.first)) h below)
