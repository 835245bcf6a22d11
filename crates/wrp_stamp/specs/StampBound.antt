-- The stamp bound: what a raw stamp keeps of the true reading at a frame's arrival, and how near the merged reading then is (this project's profile).
use Rattle.std.specs.Prelude.{ℕ, ℤ, pos, ◌≡◌, ◌+◌, ◌*◌, ◌/◌, ◌<◌, ◌≤◌, ◌+ℤ◌, ◌-ℤ◌, ◌⊎◌, unsigned_abs}
use Rattle.std.specs.Int.{int_rem_euclid}
use Rattle.wrp_base.specs.declared.time.Clock.{Clock}
use Rattle.wrp_base.specs.declared.time.Raw.{Raw}
use Rattle.wrp_base.specs.Clock.{period_of}
use Rattle.wrp_base.specs.Circle.{distance_round}
use Rattle.wrp_base.specs.Division.{floor_quotient}
use Rattle.wrp_stamp.specs.Merge.{quarter_of, place_of, merged}

-- the true place of a reading in its period, in tau
abbrev pub true_place : Clock → ℤ → ℕ
true_place clock reading = unsigned_abs (int_rem_euclid reading (pos (period_of clock)))

-- where a merge may use the rising counter, the tag being off by at most e_tag: the two middle quarters and e_tag on either side
abbrev pub MayUseRising : Clock → ℕ → ℕ → Type 0
MayUseRising clock e_tag place = (quarter_of clock ≤ place + e_tag) × (place < 3 * quarter_of clock + e_tag)

-- where it may use the falling counter: the first and the last quarter and e_tag on their inner sides
abbrev pub MayUseFalling : Clock → ℕ → ℕ → Type 0
MayUseFalling clock e_tag place = (place < quarter_of clock + e_tag) ⊎ (3 * quarter_of clock ≤ place + e_tag)

-- the tag is within e_tag of the true place round the period, and each counter is right where a merge may use it: the rising counter has the whole periods, and the falling counter changes half a period earlier
pub record KeepsStampBound (clock : Clock) (raw : Raw) (transition e_tag : ℕ) (reading : ℤ) : Type 0 where
  pub tag : distance_round clock (pos (place_of clock raw.tag transition)) (pos (true_place clock reading)) ≤ e_tag
  pub rising : MayUseRising clock e_tag (true_place clock reading) → pos raw.rising ≡ floor_quotient reading (pos (period_of clock))
  pub falling : MayUseFalling clock e_tag (true_place clock reading) → pos raw.falling ≡ floor_quotient (reading +ℤ pos (period_of clock / 2)) (pos (period_of clock))

-- the error statement of a merged stamp: for e_tag below a quarter of the period, a raw stamp that keeps the stamp bound is merged to within e_tag of the true reading
abbrev pub MergedWithinTag : Type 0
MergedWithinTag =
    (clock : Clock) (raw : Raw) (transition e_tag : ℕ) (reading : ℤ) →
    0 < raw.falling → e_tag < quarter_of clock → KeepsStampBound clock raw transition e_tag reading →
    unsigned_abs (pos (merged clock raw transition) -ℤ reading) ≤ e_tag
