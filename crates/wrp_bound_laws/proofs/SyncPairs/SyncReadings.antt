-- The time that a Follow_Up carries: the reading at its Sync's departure, as it was stamped.
use Rattle.std.proofs.Common.{◌≡◌, ◌∙◌, ap, ℕ, ◌+◌, ◌*◌, ◌/◌, ◌%◌, ℤ, pos, ◌+ℤ◌, ◌*ℤ◌, ◌≤ℤ◌, unsigned_abs, arith}
use Rattle.std.proofs.lemmas.Int.{ints}
use Rattle.wrp_base.proofs.Integers.{pos_of_abs}
use Rattle.wrp_port.specs.Wire.{later_by, nanoseconds_of, rest_of, time_of, timestamp_of}

whole : (n d : ℕ) → (n / 1_000_000_000) * 1_000_000_000 + n % 1_000_000_000 ≡ n
whole n d = omega arith

rest_whole : (v : ℕ) → v % 1_000 ≡ 0 → ((v % 65_536_000) / 1_000) * 1_000 ≡ v % 65_536_000
rest_whole v e = omega (arith, e)

parts : (v : ℕ) → (v / 65_536_000) * 65_536_000 + v % 65_536_000 ≡ v
parts v = omega arith

time_whole : (v : ℕ) → time_of (timestamp_of v) ≡ nanoseconds_of v * 65_536_000
time_whole v = ap (λ n. n * 65_536_000) (whole (nanoseconds_of v) 0)

sum_of : (a r v : ℕ) → a * 65_536_000 + r * 1_000 ≡ v → pos (a * 65_536_000) +ℤ (pos 1000 *ℤ pos r) ≡ pos v
sum_of a r v e = omega (arith, ints, e)

-- a stamp that is a multiple of 1,000 tau, and not before 0, is carried whole
pub told_whole : (v : ℤ) → pos 0 ≤ℤ v → unsigned_abs v % 1_000 ≡ 0 → later_by (timestamp_of (unsigned_abs v)) (pos (rest_of (unsigned_abs v))) ≡ v
told_whole v least e =
    let n : ℕ = unsigned_abs v in
    ap (λ t. pos t +ℤ (pos 1000 *ℤ pos (rest_of n))) (time_whole n)
    ∙ sum_of (nanoseconds_of n) (rest_of n) n (ap (λ r. nanoseconds_of n * 65_536_000 + r) (rest_whole n e) ∙ parts n)
    ∙ pos_of_abs v least

no_more : (v : ℤ) → v +ℤ (pos 1000 *ℤ pos 0) ≡ v
no_more v = omega (arith, ints)

-- a Sync without a correction adds nothing to it
pub told_plain : (v correction : ℤ) → correction ≡ pos 0 → v +ℤ (pos 1000 *ℤ correction) ≡ v
told_plain v correction e = ap (λ c. v +ℤ (pos 1000 *ℤ c)) e ∙ no_more v
