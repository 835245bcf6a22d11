use Rattle.std.proofs.Common.{◌∙◌, ap, sym, arith}
use Rattle.std.proofs.lemmas.Int.{to_z-of_z}
use Rattle.std.specs.Int.{w32}
use Rattle.std.proofs.Common.{nat_le, ◌+◌, pos, unsigned_abs}
use Rattle.std.specs.Int.Signed.{le_z}
use Rattle.wrp_premises.proofs.BeatBits.{from_sure, ones_after}
use Rattle.wrp_premises.proofs.premises.beat.is_set_from.Goals as goal

pub returns-then-bits-lt18446744073709551615 : goal.returns-then-bits-lt18446744073709551615
returns-then-bits-lt18446744073709551615 c h i l from =
    let read = to_z-of_z w32 c.args.sure c.ranges.sure in
    let met = c.if-bits-lt18446744073709551615.true in
    ones_after c.args.bits (omega (arith, met.1)) i l
    (from_sure c.args.sure c.unsigned_abs.result _ i (c.unsigned_abs.ensures.value ∙ ap unsigned_abs read) (sym (ap (le_z (pos 0)) read) ∙ met.0)
    (sym (ap (λ n. nat_le 64 (c.unsigned_abs.result + n)) c.trailing_ones.ensures) ∙ h) from)
