-- What a measurement keeps of the true delays and offsets, and what it is then worth (this project's profile).
use Rattle.std.specs.Prelude.{ℤ, pos, ◌*◌, ◌≤◌, ◌≤ℤ◌, ◌+ℤ◌, ◌-ℤ◌, unsigned_abs}
use Rattle.wrp_plain.specs.declared.settings.PlainSet.{PlainSet}
use Rattle.wrp_plain.specs.Measurement.{exchange_move, round_of, least_round, est_of, base_of}

-- the true delays of the two ways, and the slave's true offsets when its two stamps were taken
pub record Exchange : Type 0 where
  pub dms : ℤ
  pub dsm : ℤ
  pub o2 : ℤ
  pub o3 : ℤ

-- the stamps of an exchange keep the settings if the true offset is `off`: neither way is shorter than the least, the
-- offset moved by at most v, and each way was measured to within the errors of its two stamps
pub record Keeps (set : PlainSet) (off : ℤ) (true : Exchange) (t1 t2 t3 t4 : ℤ) : Type 0 where
  pub least_down : set.least ≤ℤ true.dms
  pub least_up : set.least ≤ℤ true.dsm
  pub moved_down : unsigned_abs (true.o2 -ℤ off) ≤ exchange_move set
  pub moved_up : unsigned_abs (true.o3 -ℤ off) ≤ exchange_move set
  pub stamps_down : unsigned_abs (((t2 -ℤ t1) -ℤ true.dms) -ℤ true.o2) ≤ 2 * set.err
  pub stamps_up : unsigned_abs (((t4 -ℤ t3) -ℤ true.dsm) +ℤ true.o3) ≤ 2 * set.err

-- the error statement of a measurement: if the stamps keep the settings, the round trip is not short, and the true
-- offset is within the bound of the measured one
abbrev pub MeasuredWithinBound : Type 0
MeasuredWithinBound =
    (set : PlainSet) (off : ℤ) (true : Exchange) (t1 t2 t3 t4 : ℤ) → Keeps set off true t1 t2 t3 t4 →
    (least_round set ≤ℤ round_of t1 t2 t3 t4) ×
    (pos (unsigned_abs (est_of t1 t2 t3 t4 -ℤ off)) ≤ℤ base_of set (round_of t1 t2 t3 t4))
