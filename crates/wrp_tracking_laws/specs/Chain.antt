-- What is true of a chain, over the history of one link: the limits that held since, its good samples and its constant
-- (this project's profile).
use Rattle.std.specs.Prelude.{ℕ, ℤ, pos, ◌≡◌, ◌≤◌, ◌+ℤ◌, ◌-ℤ◌, ◌≤ℤ◌, length, List, [], ◌∷◌}
use Rattle.std.specs.List.{AllByRecursion}
use Rattle.wrp_base.specs.Circle.{distance_round}
use Rattle.wrp_base.specs.Closeness.{IsWithin}
use Rattle.wrp_phase.specs.Beat.{phase_of}
use Rattle.wrp_bounds.specs.declared.numbers.HopNumbers.{HopNumbers}
use Rattle.wrp_bounds.specs.Hop.{detector_error, gap_motion, down_error, up_error}
use Rattle.wrp_tracking_laws.specs.Moment.{Moment, MovesSlowly, phase_at, ways_at}
use Rattle.wrp_tracking_laws.specs.History.{Was, EachStep}
use Rattle.wrp_tracking_laws.specs.ChainPhase.{KeepsConstant, HasPhaseRoom, unwrapped_by}

-- a good sample: its number, its tag, its unwrapped phase, and the number of the moment at which it came
pub record Good : Type 0 where
  pub number : ℕ
  pub tag : ℕ
  pub u : ℤ
  pub at : ℕ

-- a good sample of a chain that began at the moment `start` gives the constant within the detector's error
pub record GoodTells (hop : HopNumbers) (past : List Moment) (start : ℕ) (constant : ℤ)
    (good : Good) : Type 0 where
  pub since : start ≤ good.at
  pub moment : Moment
  pub was : Was past good.at moment
  pub near : IsWithin (detector_error hop) (good.u -ℤ phase_at moment) constant

-- what moves above a node and on its fibre is slow in each step from the moment `from` on
pub record KeepsLimitsAbove (hop : HopNumbers) (past : List Moment) (from : ℕ) : Type 0 where
  pub parent : EachStep (MovesSlowly hop.parent.rate (λ m. m.parent)) from past
  pub down : EachStep (MovesSlowly 2 (λ m. m.down)) from past
  pub up : EachStep (MovesSlowly 2 (λ m. m.up)) from past

-- the limits of a chain: the node's own since its start, the parent's and the fibre's from an earlier
-- moment on, since a Sync may depart before the chain begins
pub record KeepsLimits (hop : HopNumbers) (past : List Moment) (from start : ℕ) : Type 0 where
  pub order : from ≤ start
  pub own : EachStep (MovesSlowly hop.own.rate (λ m. m.own)) start past
  pub above : KeepsLimitsAbove hop past from

-- a chain with its limits, its good samples and the newest of them, whose tag also lies round the period where the
-- unwrapped phase says
pub record ChainHolds (hop : HopNumbers) (past : List Moment) (from start : ℕ) (constant : ℤ)
    (newest : Good) (earlier : List Good) : Type 0 where
  pub limits : KeepsLimits hop past from start
  pub goods : AllByRecursion (GoodTells hop past start constant) (newest ∷ earlier)
  pub moment : Moment
  pub was : Was past newest.at moment
  pub keeps :
      KeepsConstant hop.clock (detector_error hop) constant newest.u newest.tag (phase_at moment)

-- time passes within the limits of all that moves on a link
pub record PassesSlowly (hop : HopNumbers) (before now : Moment) : Type 0 where
  pub own : MovesSlowly hop.own.rate (λ m. m.own) before now
  pub parent : MovesSlowly hop.parent.rate (λ m. m.parent) before now
  pub down : MovesSlowly 2 (λ m. m.down) before now
  pub up : MovesSlowly 2 (λ m. m.up) before now

-- the tag of a good sample gives the true phase of this moment within the detector's error
abbrev pub TagTells : HopNumbers → (tag : ℕ) → Moment → Type 0
TagTells hop tag now =
    distance_round hop.clock (pos (phase_of hop.clock tag)) (phase_at now) ≤ detector_error hop

-- the moment of this number is at most this long ago
pub record IsRecent (at : ℕ) (now : Moment) (past : List Moment) (time : ℕ) : Type 0 where
  pub moment : Moment
  pub was : Was (now ∷ past) at moment
  pub near : now.time ≤ℤ (moment.time +ℤ pos time)

-- a good sample at the newest moment of a history
abbrev pub good_now : (number tag : ℕ) → (u : ℤ) → (past : List Moment) → Good
good_now number tag u past = record { number = number; tag = tag; u = u; at = length past }

-- a chain starts at the newest moment: with the tag of a good sample it holds with some constant
abbrev pub ChainStarts : Type 0
ChainStarts =
    (hop : HopNumbers) (now : Moment) (past : List Moment) (from number tag : ℕ) (u : ℤ) →
    from ≤ length past →
    KeepsLimitsAbove hop (now ∷ past) from →
    TagTells hop tag now →
    (constant : ℤ)
    × ChainHolds hop (now ∷ past) from (length past) constant (good_now number tag u past) []

-- a moment comes: within the limits the chain still holds
abbrev pub MomentKeepsChain : Type 0
MomentKeepsChain =
    (hop : HopNumbers) (now before : Moment) (past : List Moment) (from start : ℕ) (constant : ℤ) →
    (newest : Good) (earlier : List Good) →
    PassesSlowly hop before now →
    ChainHolds hop (before ∷ past) from start constant newest earlier →
    ChainHolds hop (now ∷ (before ∷ past)) from start constant newest earlier

-- a good sample comes at the newest moment, at most a gap after the one before it: the chain still holds
abbrev pub SampleKeepsChain : Type 0
SampleKeepsChain =
    (hop : HopNumbers) (now : Moment) (past : List Moment) (from start : ℕ) (constant : ℤ) →
    (newest : Good) (earlier : List Good) (number tag : ℕ) →
    HasPhaseRoom hop.clock (detector_error hop) (gap_motion hop) →
    ChainHolds hop (now ∷ past) from start constant newest earlier →
    IsRecent newest.at now past hop.gap_time →
    TagTells hop tag now →
    ChainHolds hop (now ∷ past) from start constant
    (good_now number tag (unwrapped_by hop.clock newest.u newest.tag tag) past) (newest ∷ earlier)

-- a frame that departed and arrived at two moments of the history, with this way between them
pub record FlewAt (hop : HopNumbers) (past : List Moment) (sent_at came_at : ℕ)
    (sent came : Moment) (way : ℤ) : Type 0 where
  pub was_sent : Was past sent_at sent
  pub was_come : Was past came_at came
  pub order : sent_at ≤ came_at
  pub time : came.time ≡ sent.time +ℤ way
  pub short : way ≤ℤ pos hop.reach

-- a stamp at a moment of the history latched a good sample, at most a gap before
pub record LatchedAt (hop : HopNumbers) (past : List Moment) (good : Good) (at : ℕ)
    (sample stamped : Moment) : Type 0 where
  pub was : Was past good.at sample
  pub order : good.at ≤ at
  pub near : stamped.time ≤ℤ (sample.time +ℤ pos hop.gap_time)

-- a Sync that departed while the limits above held, and that arrived in the chain, gives the constant
abbrev pub SyncTellsConstant : Type 0
SyncTellsConstant =
    (hop : HopNumbers) (past : List Moment) (from start : ℕ) (constant t1 t2 : ℤ) (good : Good) →
    (sent_at came_at : ℕ) (sent sample came : Moment) →
    KeepsLimits hop past from start →
    GoodTells hop past start constant good →
    from ≤ sent_at →
    FlewAt hop past sent_at came_at sent came sent.down →
    LatchedAt hop past good came_at sample came →
    IsWithin hop.parent.e_tx t1 (sent.time +ℤ sent.parent) →
    IsWithin hop.own.e_tag t2 (came.time +ℤ came.own) →
    IsWithin (down_error hop) ((t1 -ℤ t2) +ℤ good.u) constant

-- a Delay_Req that departed in the chain gives the constant and both ways
abbrev pub DelayTellsWays : Type 0
DelayTellsWays =
    (hop : HopNumbers) (past : List Moment) (from start : ℕ) (constant t3 t4 : ℤ) (good : Good) →
    (sent_at came_at : ℕ) (sample sent came : Moment) →
    KeepsLimits hop past from start →
    GoodTells hop past start constant good →
    FlewAt hop past sent_at came_at sent came sent.up →
    LatchedAt hop past good sent_at sample sent →
    IsWithin hop.own.e_tx t3 (sent.time +ℤ sent.own) →
    IsWithin hop.parent.e_tag t4 (came.time +ℤ came.parent) →
    IsWithin (up_error hop) ((t4 -ℤ t3) +ℤ good.u) (constant +ℤ ways_at sent)
