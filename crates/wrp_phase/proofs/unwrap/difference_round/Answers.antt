-- The difference of two tags is the difference of their phases, brought round the period.
use Rattle.std.proofs.Common.{◌≡◌, ℕ, pos, ◌+◌, ◌-◌, ◌*◌, ◌%◌, ◌<◌, ◌+ℤ◌, ◌-ℤ◌, ◌*ℤ◌, refl, arith}
use Rattle.std.proofs.lemmas.Int.{ints, int_rem_euclid_is, to_z-of_z}
use Rattle.std.specs.Int.{int_rem_euclid}
use Rattle.wrp_base.specs.declared.time.Clock.{Clock}
use Rattle.wrp_base.specs.declared.time.Clock.TheVariants.{Mhz125, Mhz62}
use Rattle.wrp_base.specs.Clock.{step_of}
use Rattle.wrp_phase.specs.Beat.{phase_of}
use Rattle.wrp_phase.specs.Unwrapping.{brought_round}
use Rattle.wrp_phase.proofs.unwrap.difference_round.Goals as goal

-- steps, brought into half a period on either side, are the phases so brought
brought : (clock : Clock) (before tag : ℕ) → before < 65_536 →
    pos (step_of clock) *ℤ (pos ((tag + 65_536 + 8_192 - before) % 16_384) -ℤ pos 8_192) ≡ brought_round clock (pos (phase_of clock tag) -ℤ pos (phase_of clock before))
brought Mhz125 before tag h =
    let steps : ℕ = tag + 65_536 + 8_192 - before in
    let rest : int_rem_euclid ((pos (32_000 * tag) -ℤ pos (32_000 * before)) +ℤ pos 262_144_000) (pos 524_288_000) ≡ pos (32_000 * steps % 524_288_000) =
    int_rem_euclid_is _ (pos 524_288_000) 524_288_000 4 (32_000 * steps) (omega arith) refl (omega (arith, ints)) in
    rw rest (omega (arith, ints))
brought Mhz62 before tag h =
    let steps : ℕ = tag + 65_536 + 8_192 - before in
    let rest : int_rem_euclid ((pos (64_000 * tag) -ℤ pos (64_000 * before)) +ℤ pos 524_288_000) (pos 1_048_576_000) ≡ pos (64_000 * steps % 1_048_576_000) =
    int_rem_euclid_is _ (pos 1_048_576_000) 1_048_576_000 4 (64_000 * steps) (omega arith) refl (omega (arith, ints)) in
    rw rest (omega (arith, ints))

pub returns-clause-value : goal.returns-clause-value
returns-clause-value c =
    let same = brought c.args.clock c.args.before c.args.tag c.ranges.before.fits in
    grind (arith, to_z-of_z, same)
