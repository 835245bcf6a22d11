-- The bound of one hop: how far a node in TRACK may be from its parent (this project's profile).
use Rattle.std.specs.Prelude.{ℕ, ℤ, pos, ◌+◌, ◌*◌, ◌^◌, ◌≤◌, ◌+ℤ◌, unsigned_abs}
use Rattle.wrp_base.specs.Clock.{step_of}
use Rattle.wrp_bounds.specs.declared.numbers.NodeNumbers.{NodeNumbers}
use Rattle.wrp_bounds.specs.declared.numbers.HopNumbers.{HopNumbers}
use Rattle.wrp_bounds.specs.Motion.{motion, rounded_up}

-- the greatest rate of a fibre's one-way delay, in 10^-12
abbrev pub fibre_rate : ℕ
fibre_rate = 2

-- the error of the phase detector: the steps that the beat bits may flicker, and one more
abbrev pub detector_error : HopNumbers → ℕ
detector_error hop = (hop.beat + 1) * step_of hop.clock

-- how far the offset from the parent and the fibre move from one good sample to the next
abbrev pub gap_motion : HopNumbers → ℕ
gap_motion hop = motion (hop.own.rate + hop.parent.rate + fibre_rate) hop.gap_time

-- how far the parent and the fibre move while a frame is on the fibre
abbrev pub reach_motion : HopNumbers → ℕ
reach_motion hop = motion (hop.parent.rate + fibre_rate) hop.reach

-- the error of the way down: the parent's send stamp, the own receive stamp, and their phase
abbrev pub down_error : HopNumbers → ℕ
down_error hop =
    hop.parent.e_tx + hop.own.e_tag + reach_motion hop + detector_error hop + gap_motion hop

-- the error of the way up: the own send stamp, the parent's receive stamp, and their phase
abbrev pub up_error : HopNumbers → ℕ
up_error hop =
    hop.own.e_tx + hop.parent.e_tag + reach_motion hop + detector_error hop + gap_motion hop

-- how far both ways of the fibre move from a measurement's stamps to its last use
abbrev pub age_motion : HopNumbers → ℕ
age_motion hop = motion (2 * fibre_rate) hop.age_time

-- the error of both ways together, with all four port delays
abbrev pub both_ways_error : HopNumbers → ℕ
both_ways_error hop = down_error hop + up_error hop + 4 * hop.e_db + age_motion hop

-- the share of the way down in both ways, in 2^-40
abbrev pub share_down : ℤ → ℕ
share_down kappa = unsigned_abs (pos (2 ^ 39) +ℤ kappa)

-- what of the error of both ways goes into the way down
abbrev pub scaled_error : HopNumbers → ℕ
scaled_error hop = rounded_up (share_down hop.kappa * both_ways_error hop) (2 ^ 40)

-- how far the estimated offset from the parent may be from the true one
abbrev pub estimate_error : HopNumbers → ℕ
estimate_error hop =
    down_error hop + detector_error hop + gap_motion hop + scaled_error hop
    + 2 * hop.e_db + hop.e_asym + age_motion hop + hop.law_err

-- the bound of the hop: what TRACK and the loop leave, and the estimate's error
abbrev pub hop_bound : HopNumbers → ℕ
hop_bound hop = hop.track_tau + hop.loop_tau + estimate_error hop

-- the numbers of one end are in ranges at which all sums fit
pub record EndIsInRange (e : NodeNumbers) : Type 0 where
  pub e_tx : e.e_tx ≤ 2 ^ 30
  pub e_tag : e.e_tag ≤ 2 ^ 30
  pub rate : e.rate ≤ 2 ^ 30

-- the numbers of a hop are in ranges at which all sums fit
pub record IsInRange (hop : HopNumbers) : Type 0 where
  pub track_tau : hop.track_tau ≤ 2 ^ 30
  pub loop_tau : hop.loop_tau ≤ 2 ^ 30
  pub own : EndIsInRange hop.own
  pub parent : EndIsInRange hop.parent
  pub beat : hop.beat ≤ 24
  pub kappa : unsigned_abs hop.kappa ≤ 2 ^ 38
  pub e_db : hop.e_db ≤ 2 ^ 30
  pub e_asym : hop.e_asym ≤ 2 ^ 30
  pub law_err : hop.law_err ≤ 2 ^ 31
  pub gap_time : hop.gap_time ≤ 2 ^ 78
  pub age_time : hop.age_time ≤ 2 ^ 78
  pub reach : hop.reach ≤ 2 ^ 78
