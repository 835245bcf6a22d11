-- The bound of one hop over a history: what follows for it at every moment from the chain, the four that the servo
-- keeps and the fibre (this project's profile).
use Rattle.std.specs.Prelude.{ℕ, ℤ, pos, ◌≡◌, ◌≤◌, ◌+ℤ◌, ◌-ℤ◌, ◌≤ℤ◌, List, ◌∷◌}
use Rattle.wrp_base.specs.declared.measurement.Four.{Four}
use Rattle.wrp_base.specs.declared.link.Deltas.{Deltas}
use Rattle.wrp_base.specs.Closeness.{IsWithin}
use Rattle.wrp_bounds.specs.declared.numbers.HopNumbers.{HopNumbers}
use Rattle.wrp_bounds.specs.Hop.{down_error, up_error, estimate_error, hop_bound}
use Rattle.wrp_tracking_laws.specs.Moment.{Moment, ways_at}
use Rattle.wrp_tracking_laws.specs.History.{Was}
use Rattle.wrp_tracking_laws.specs.ErrorSum.{sync_sum, delay_sum, estimate_of, FibreHolds, IsAnswer, TrackFacts}
use Rattle.wrp_tracking_laws.specs.Chain.{Good, ChainHolds, IsRecent}

-- a Delay_Req of the chain departed at a moment of the history, and gives the constant and both ways
pub record WaysTold (hop : HopNumbers) (past : List Moment) (from : ℕ) (constant told : ℤ)
    : Type 0 where
  pub at : ℕ
  pub sent : Moment
  pub was : Was past at sent
  pub since : from ≤ at
  pub tells : IsWithin (up_error hop) told (constant +ℤ ways_at sent)

-- the four that the servo keeps is true of the chain: its Sync gives the constant, and its Delay_Req the constant and
-- both ways, at most an age ago
pub record FourHolds (hop : HopNumbers) (now : Moment) (past : List Moment) (from : ℕ)
    (constant : ℤ) (four : Four) : Type 0 where
  pub sync : IsWithin (down_error hop) (sync_sum four) constant
  pub delay : WaysTold hop (now ∷ past) from constant (delay_sum four)
  pub young : now.time ≤ℤ (delay.sent.time +ℤ pos hop.age_time)

-- what holds of a hop at the newest moment: a chain whose newest sample is recent, its four with an answer of the law,
-- and the fibre
pub record HopStands (hop : HopNumbers) (now : Moment) (past : List Moment) (deltas : Deltas)
    (four : Four) (y u : ℤ) : Type 0 where
  pub from : ℕ
  pub start : ℕ
  pub constant : ℤ
  pub newest : Good
  pub earlier : List Good
  pub chain : ChainHolds hop (now ∷ past) from start constant newest earlier
  pub recent : IsRecent newest.at now past hop.gap_time
  pub u_is : u ≡ newest.u
  pub four_true : FourHolds hop now past from constant four
  pub fibre : FibreHolds hop now deltas
  pub answer : IsAnswer hop deltas four y

-- the estimate is near at every moment
abbrev pub EstimateHolds : Type 0
EstimateHolds =
    (hop : HopNumbers) (now : Moment) (past : List Moment) (deltas : Deltas) (four : Four) →
    (y u : ℤ) →
    HopStands hop now past deltas four y u →
    IsWithin (estimate_error hop) (estimate_of deltas four y u) (now.own -ℤ now.parent)

-- and in TRACK so is the node
abbrev pub HopHolds : Type 0
HopHolds =
    (hop : HopNumbers) (now : Moment) (past : List Moment) (deltas : Deltas) (four : Four) →
    (y u loop_error : ℤ) →
    HopStands hop now past deltas four y u →
    TrackFacts hop (estimate_of deltas four y u) loop_error →
    IsWithin (hop_bound hop) now.own now.parent
