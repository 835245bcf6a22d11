-- The error sum of one hop: what is known of a node's four stamps, its phase and its fibre, and what
-- follows for its estimate and its offset (this project's profile).
use Rattle.std.specs.Prelude.{ℕ, ℤ, pos, ◌≡◌, ◌*◌, ◌≤◌, ◌^◌, ◌+ℤ◌, ◌-ℤ◌, ◌*ℤ◌, unsigned_abs}
use Rattle.wrp_base.specs.declared.measurement.Four.{Four}
use Rattle.wrp_base.specs.declared.link.Deltas.{Deltas}
use Rattle.wrp_base.specs.Closeness.{IsWithin}
use Rattle.wrp_bounds.specs.declared.numbers.HopNumbers.{HopNumbers}
use Rattle.wrp_bounds.specs.Hop.{detector_error, down_error, up_error, age_motion, estimate_error, hop_bound}
use Rattle.wrp_servo.specs.Measuring.{x_of}
use Rattle.wrp_tracking_laws.specs.Moment.{Moment, phase_at, ways_at}
use Rattle.wrp_tracking_laws.specs.Rates.{KeepsRates}

-- what the Sync's two stamps and their phase give
abbrev pub sync_sum : Four → ℤ
sync_sum f = (f.t1 -ℤ f.t2) +ℤ f.u2

-- what the Delay_Req's two stamps and their phase give
abbrev pub delay_sum : Four → ℤ
delay_sum f = (f.t4 -ℤ f.t3) +ℤ f.u3

-- the estimated offset from the parent, by the law's answer y and the unwrapped phase u
abbrev pub estimate_of : Deltas → Four → (y u : ℤ) → ℤ
estimate_of d f y u =
    ((f.t2 -ℤ f.t1) -ℤ ((pos d.txm +ℤ pos d.rxs) +ℤ y)) +ℤ (u -ℤ f.u2)

-- 2^40 times the share of both ways that the way down takes
abbrev pub numerator_of : (kappa ways : ℤ) → ℤ
numerator_of kappa ways = ways *ℤ (pos (2 ^ 39) +ℤ kappa)

-- a way down is within e of its share of both ways, both sides times 2^40
abbrev pub IsShare : HopNumbers → (e : ℕ) → (down ways : ℤ) → Type 0
IsShare hop e down ways = IsWithin (2 ^ 40 * e) (pos (2 ^ 40) *ℤ down) (numerator_of hop.kappa ways)

-- each of the four delays is within e of the other's
pub record Agree (e : ℕ) (a b : Deltas) : Type 0 where
  pub txm : IsWithin e (pos a.txm) (pos b.txm)
  pub rxs : IsWithin e (pos a.rxs) (pos b.rxs)
  pub txs : IsWithin e (pos a.txs) (pos b.txs)
  pub rxm : IsWithin e (pos a.rxm) (pos b.rxm)

-- the link at a moment: its ports are as the database gives them, and its fibre has its asymmetry
pub record FibreHolds (hop : HopNumbers) (now : Moment) (deltas : Deltas) : Type 0 where
  pub ports : Deltas
  pub down_fibre : ℤ
  pub up_fibre : ℤ
  pub down : now.down ≡ (pos ports.txm +ℤ down_fibre) +ℤ pos ports.rxs
  pub up : now.up ≡ (pos ports.txs +ℤ up_fibre) +ℤ pos ports.rxm
  pub database : Agree hop.e_db ports deltas
  pub asymmetry : IsShare hop hop.e_asym down_fibre (down_fibre +ℤ up_fibre)

-- the four stamps give the chain's constant, and both ways as they were at most an age ago
pub record FourFacts (hop : HopNumbers) (constant : ℤ) (four : Four) (now : Moment) : Type 0 where
  pub ways : ℤ
  pub sync : IsWithin (down_error hop) (sync_sum four) constant
  pub delay : IsWithin (up_error hop) (delay_sum four) (constant +ℤ ways)
  pub moved : IsWithin (age_motion hop) ways (ways_at now)

-- the unwrapped phase gives the chain's constant, as it was at most a gap ago
pub record PhaseFacts (hop : HopNumbers) (constant u : ℤ) (sampled now : Moment) : Type 0 where
  pub phase : IsWithin (detector_error hop) (u -ℤ phase_at sampled) constant
  pub wait : ℕ
  pub since : KeepsRates hop sampled now wait
  pub near : wait ≤ hop.gap_time

-- y is an answer of the hop's delay law to the four stamps
abbrev pub IsAnswer : HopNumbers → Deltas → Four → ℤ → Type 0
IsAnswer hop deltas four y = IsShare hop hop.law_err y (x_of deltas four)

-- what TRACK allows: the loop's error, and the estimate less that error, are within their limits
pub record TrackFacts (hop : HopNumbers) (estimate loop_error : ℤ) : Type 0 where
  pub loop_limit : unsigned_abs loop_error ≤ hop.loop_tau
  pub track_limit : unsigned_abs (estimate -ℤ loop_error) ≤ hop.track_tau

-- what is known of a hop whose node has a four and a phase of one chain
pub record HopFacts (hop : HopNumbers) (constant : ℤ) (four : Four) (deltas : Deltas) (y u : ℤ)
    (sampled now : Moment) : Type 0 where
  pub stamps : FourFacts hop constant four now
  pub phase : PhaseFacts hop constant u sampled now
  pub fibre : FibreHolds hop now deltas
  pub answer : IsAnswer hop deltas four y

-- the estimate is within its error of the true offset from the parent
abbrev pub EstimateIsNear : Type 0
EstimateIsNear =
    (hop : HopNumbers) (constant : ℤ) (four : Four) (deltas : Deltas) (y u : ℤ) →
    (sampled now : Moment) →
    HopFacts hop constant four deltas y u sampled now →
    IsWithin (estimate_error hop) (estimate_of deltas four y u) (now.own -ℤ now.parent)

-- in TRACK the node is within the bound of its hop of its parent
abbrev pub HopSum : Type 0
HopSum =
    (hop : HopNumbers) (constant : ℤ) (four : Four) (deltas : Deltas) (y u loop_error : ℤ) →
    (sampled now : Moment) →
    HopFacts hop constant four deltas y u sampled now →
    TrackFacts hop (estimate_of deltas four y u) loop_error →
    IsWithin (hop_bound hop) now.own now.parent
