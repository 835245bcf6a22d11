-- The measurement that a servo holds, in a run: its four gives the chain's constant, and its delay is an answer of the
-- link's law by the delays of the ports now in place (this project's profile).
use Rattle.std.specs.Prelude.{◌≡◌, ℕ, ℤ, List, ◌∷◌, length, Some}
use Rattle.wrp_base.specs.declared.link.Deltas.{Deltas}
use Rattle.wrp_base.specs.declared.link.ServoState.TheVariants.{Track}
use Rattle.wrp_network.specs.declared.network.LinkCfg.{LinkCfg}
use Rattle.wrp_bounds.specs.Bounds.{numbers_of}
use Rattle.wrp_bounds.specs.declared.numbers.HopNumbers.{HopNumbers}
use Rattle.wrp_node.specs.NodeAt.{deltas_in, servo_at}
use Rattle.wrp_servo.specs.declared.machine.Measurement.{Measurement}
use Rattle.wrp_servo.specs.Measuring.{delay_of}
use Rattle.wrp_tracking_laws.specs.ErrorSum.{IsAnswer, IsShare}
use Rattle.wrp_tracking_laws.specs.HopInTrack.{FourHolds}
use Rattle.wrp_course.specs.Run.{Happened, IsAnswered, world_after}
use Rattle.wrp_course.specs.Runs.{IsRun}
use Rattle.wrp_course.specs.Setting.{Setting, node_setting_of, link_of}
use Rattle.wrp_bound_laws.specs.Chains.{AllFit, ChainRuns}
use Rattle.wrp_bound_laws.specs.Views.{moment_at, moments_of}

-- the servo of a node holds this measurement
abbrev pub IsKept : Setting → ℕ → List Happened → Measurement → Type 0
IsKept s n events kept = (servo_at (node_setting_of s n) ((world_after s events).node n)).kept ≡ Some kept

-- the four held in TRACK is true of the chain, and its Delay_Req departed not too long ago
abbrev pub FourHoldsInTrack : Type 0
FourHoldsInTrack =
    (s : Setting) (h : Happened) (before : List Happened) (k : ℕ) (link : LinkCfg) (hop : HopNumbers) (kept : Measurement) →
    IsRun s (h ∷ before) → AllFit (h ∷ before) → link_of s k ≡ Some link → numbers_of s.cfg link.lower ≡ Some hop →
    (chain : ChainRuns s (h ∷ before) k link hop) →
    (servo_at (node_setting_of s link.lower) ((world_after s (h ∷ before)).node link.lower)).state ≡ Track →
    IsKept s link.lower (h ∷ before) kept →
    FourHolds hop (moment_at k link (world_after s (h ∷ before))) (moments_of s k link before) (length chain.follows.older)
    chain.constant kept.four

-- the answer of the law of the link above a node is near the exact fraction
abbrev pub IsNearAnswer : Setting → ℕ → ℤ → ℤ → Type 0
IsNearAnswer s n x y = (hop : HopNumbers) → numbers_of s.cfg n ≡ Some hop → IsShare hop hop.law_err y x

-- a measurement's delay was computed from these deltas, with an answer that is near
pub record IsReckoned (hop : HopNumbers) (deltas : Deltas) (kept : Measurement) : Type 0 where
  pub answer : ℤ
  pub delay : kept.delay ≡ delay_of deltas answer
  pub near : IsAnswer hop deltas kept.four answer

-- this holds of the measurement that the servo holds, with the deltas of the link as it is now
abbrev pub KeptIsReckoned : Type 0
KeptIsReckoned =
    (s : Setting) (events : List Happened) (k : ℕ) (link : LinkCfg) (hop : HopNumbers) (kept : Measurement) →
    IsRun s events → IsAnswered (IsNearAnswer s) s (world_after s events) → link_of s k ≡ Some link → numbers_of s.cfg link.lower ≡ Some hop → IsKept s link.lower events kept →
    (deltas : Deltas) × (deltas_in (s.set link.lower) ((world_after s events).node link.lower) ≡ Some deltas)
    × IsReckoned hop deltas kept
