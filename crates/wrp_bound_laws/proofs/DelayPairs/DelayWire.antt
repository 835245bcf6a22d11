-- A Delay_Resp carries the stamp of a reception: as a Timestamp and a correctionField, and back.
use Rattle.std.proofs.Common.{◌≡◌, ◌∙◌, refl, ap, sym, ℕ, zero, suc, pos, negsuc, ◌+◌, ◌-◌, ◌*◌, ◌/◌, ◌%◌, ◌<◌, ◌-ℤ◌, ◌*ℤ◌, min, arith}
use Rattle.std.proofs.lemmas.Int.{ints}
use Rattle.std.specs.Int.{saturate_signed, w64}
use Rattle.wrp_base.specs.declared.time.Clock.{Clock}
use Rattle.wrp_base.specs.declared.time.Clock.TheVariants.{Mhz125, Mhz62}
use Rattle.wrp_base.specs.declared.time.Raw.{Raw}
use Rattle.wrp_port.specs.Wire.{corrected_by, earlier_by, nanoseconds_of, rest_of, time_of, timestamp_of}
use Rattle.wrp_stamp.specs.Merge.{merged, periods_at, place_of}

-- a small correction is not cut
small_kept : (r : ℕ) → r < 65536 → saturate_signed w64 (pos 0 -ℤ pos r) ≡ pos 0 -ℤ pos r
small_kept zero less = refl
small_kept (suc r) less =
    let below : pos 0 -ℤ pos (suc r) ≡ negsuc r = omega (arith, ints) in
    let fits : min r 9_223_372_036_854_775_807 ≡ r = omega (arith, less) in
    ap (saturate_signed w64) below ∙ ap negsuc fits ∙ sym below

rest_small : (v : ℕ) → rest_of v < 65536
rest_small v = omega arith

nanos_back : (q : ℕ) → (q / 1_000_000_000) * 1_000_000_000 + q % 1_000_000_000 ≡ q
nanos_back q = omega arith

sum_back : (t r v : ℕ) → t + 1000 * r ≡ v → pos t -ℤ (pos 1000 *ℤ (pos 0 -ℤ pos r)) ≡ pos v
sum_back t r v e = omega (arith, ints, e)

whole_back : (v : ℕ) → v % 1000 ≡ 0 → (v / 65_536_000) * 65_536_000 + 1000 * ((v % 65_536_000) / 1_000) ≡ v
whole_back v e = omega (arith, e)

-- a whole number of thousands of tau is read back as that number
pub told_back : (v : ℕ) → v % 1000 ≡ 0 → earlier_by (timestamp_of v) (corrected_by (pos 0) v) ≡ pos v
told_back v whole =
    ap (λ c. pos (time_of (timestamp_of v)) -ℤ (pos 1000 *ℤ c)) (small_kept (rest_of v) (rest_small v))
    ∙ ap (λ n. pos (n * 65_536_000) -ℤ (pos 1000 *ℤ (pos 0 -ℤ pos (rest_of v)))) (nanos_back (nanoseconds_of v))
    ∙ sum_back (nanoseconds_of v * 65_536_000) (rest_of v) v (whole_back v whole)

-- a merged stamp is such a number
whole_sum : (a b : ℕ) → (a * 524_288_000 + 32_000 * b) % 1000 ≡ 0
whole_sum a b = omega arith

whole_sum_62 : (a b : ℕ) → (a * 1_048_576_000 + 64_000 * b) % 1000 ≡ 0
whole_sum_62 a b = omega arith

pub merged_whole : (clock : Clock) (raw : Raw) (transition : ℕ) → merged clock raw transition % 1000 ≡ 0
merged_whole Mhz125 raw transition = whole_sum (periods_at Mhz125 raw (place_of Mhz125 raw.tag transition)) ((raw.tag + 16_384 - transition) % 16_384)
merged_whole Mhz62 raw transition = whole_sum_62 (periods_at Mhz62 raw (place_of Mhz62 raw.tag transition)) ((raw.tag + 16_384 - transition) % 16_384)
