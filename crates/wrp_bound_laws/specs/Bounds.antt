-- The tracking bound, in every run: a node in TRACK is within its path of true time, a node in HOLDOVER is within its
-- bound there, and its estimate is near its true offset from its parent (this project's profile).
use Rattle.std.specs.Prelude.{◌≡◌, ◌<◌, ◌≤◌, ◌-ℤ◌, ℕ, ℤ, true, unsigned_abs, List, ◌∷◌, Some}
use Rattle.std.specs.List.{AllByRecursion}
use Rattle.wrp_base.specs.declared.link.ServoState.TheVariants.{Track}
use Rattle.wrp_network.specs.declared.network.LinkCfg.{LinkCfg}
use Rattle.wrp_network.specs.Network.{link_above, node_count}
use Rattle.wrp_base.specs.Closeness.{IsWithin}
use Rattle.wrp_bounds.specs.Bounds.{numbers_of, path_of}
use Rattle.wrp_bounds.specs.Hop.{estimate_error}
use Rattle.wrp_bounds.specs.declared.numbers.HopNumbers.{HopNumbers}
use Rattle.wrp_node.specs.declared.interface.Output.{Output}
use Rattle.wrp_node.specs.declared.interface.Output.TheVariants as output
use Rattle.wrp_node.specs.declared.interface.Report.TheVariants as report
use Rattle.wrp_node.specs.NodeAt.{est_of, state_of}
use Rattle.wrp_tracking_laws.specs.Tree.{IsBounded}
use Rattle.wrp_course.specs.Given.{NodeStepAt}
use Rattle.wrp_course.specs.Run.{Happened, IsAnswered, steps_at, world_after}
use Rattle.wrp_course.specs.Runs.{IsRun}
use Rattle.wrp_course.specs.Setting.{Setting, node_setting_of}
use Rattle.wrp_course.specs.WorldAt.{WorldAt}
use Rattle.wrp_bound_laws.specs.Chains.{AllFit}
use Rattle.wrp_bound_laws.specs.Fours.{IsNearAnswer}
use Rattle.wrp_bound_laws.specs.Views.{offsets_at}

-- a run of an accepted network whose events' numbers fit their types, with answers of the links' laws that are near
pub record TrueRun (s : Setting) (events : List Happened) : Type 0 where
  pub run : IsRun s events
  pub fit : AllFit events
  pub answered : IsAnswered (IsNearAnswer s) s (world_after s events)

-- each node that is up is within its bound: in TRACK the bound of its path, and in HOLDOVER that bound with what the
-- node may have moved since
abbrev pub AllAreBounded : Setting → WorldAt → Type 0
AllAreBounded s w = (n : ℕ) → n < node_count s.cfg → (w.clock n).up ≡ true → IsBounded s.cfg (offsets_at s w) n

-- each node that is up is within its bound: in TRACK the bound of its path, and in HOLDOVER the bound of HOLDOVER
abbrev pub OffsetsKeepBounds : Type 0
OffsetsKeepBounds =
    (s : Setting) (events : List Happened) (n : ℕ) → TrueRun s events →
    n < node_count s.cfg → ((world_after s events).clock n).up ≡ true → IsBounded s.cfg (offsets_at s (world_after s events)) n

-- in TRACK the estimate of a node is near its true offset from its parent
abbrev pub EstimatesAreNear : Type 0
EstimatesAreNear =
    (s : Setting) (events : List Happened) (n : ℕ) (link : LinkCfg) (hop : HopNumbers) (est : ℤ) →
    TrueRun s events → link_above s.cfg n ≡ Some link → numbers_of s.cfg n ≡ Some hop →
    state_of (node_setting_of s n) ((world_after s events).node n) ≡ Track →
    est_of (node_setting_of s n) ((world_after s events).node n) ≡ Some est →
    IsWithin (estimate_error hop) est (((world_after s events).clock n).off -ℤ ((world_after s events).clock link.upper).off)

-- a report of TRACK by a node in an event that left this world: the node is in TRACK and within its path, and the
-- reported estimate is near its offset from its parent
pub record IsTrueReport (s : Setting) (w : WorldAt) (n : ℕ) (est : ℤ) : Type 0 where
  pub track : state_of (node_setting_of s n) (w.node n) ≡ Track
  pub path : unsigned_abs (w.clock n).off ≤ path_of s.cfg n
  pub link : LinkCfg
  pub above : link_above s.cfg n ≡ Some link
  pub hop : HopNumbers
  pub numbers : numbers_of s.cfg n ≡ Some hop
  pub estimate : IsWithin (estimate_error hop) est ((w.clock n).off -ℤ (w.clock link.upper).off)

-- if an output of a node is a report of TRACK, it is such a report
abbrev pub IsTrueOutput : Setting → WorldAt → ℕ → Output → Type 0
IsTrueOutput s w n (output.Report (report.Track est)) = IsTrueReport s w n est
IsTrueOutput s w n _ = Unit {0}

-- so are all the outputs of a step
abbrev pub IsTrueStep : Setting → WorldAt → NodeStepAt → Type 0
IsTrueStep s w step = AllByRecursion (IsTrueOutput s w step.node) step.outs

-- this holds of each step in every event
abbrev pub TrackReportsAreTrue : Type 0
TrackReportsAreTrue =
    (s : Setting) (h : Happened) (before : List Happened) → TrueRun s (h ∷ before) →
    AllByRecursion (IsTrueStep s (world_after s (h ∷ before))) (steps_at s before h)
