-- The parts of the tracking invariant, over a history of states of a world, the newest first: what the
-- bound needs of a state (this project's profile).
use Rattle.std.specs.Prelude.{ℕ, ℤ, pos, ◌≡◌, ◌<◌, ◌≤◌, ◌+ℤ◌, ◌≤ℤ◌, unsigned_abs, map, Some, None, List, ◌∷◌}
use Rattle.wrp_network.specs.declared.configuration.NetCfg.{NetCfg}
use Rattle.wrp_network.specs.declared.network.NodeCfg.{NodeCfg}
use Rattle.wrp_network.specs.declared.network.LinkCfg.{LinkCfg}
use Rattle.wrp_base.specs.declared.link.Deltas.{Deltas}
use Rattle.wrp_base.specs.declared.link.ServoState.TheVariants.{Track, Holdover}
use Rattle.wrp_network.specs.Network.{IsNode, IsTree, link_above, node_count}
use Rattle.wrp_exch.specs.Call.{Call}
use Rattle.wrp_servo.specs.declared.machine.Core.{Core}
use Rattle.wrp_servo.specs.Measuring.{delay_of}
use Rattle.wrp_bounds.specs.declared.numbers.HopNumbers.{HopNumbers}
use Rattle.wrp_bounds.specs.Bounds.{numbers_of, path_of}
use Rattle.wrp_bounds.specs.Times.{held_time}
use Rattle.wrp_tracking_laws.specs.History.{Was, EachStep, IsSlow}
use Rattle.wrp_tracking_laws.specs.Moment.{Moment}
use Rattle.wrp_tracking_laws.specs.ErrorSum.{FibreHolds, IsAnswer}
use Rattle.wrp_tracking_laws.specs.Chain.{Good, ChainHolds, PassesSlowly}
use Rattle.wrp_tracking_laws.specs.HopInTrack.{FourHolds}
use Rattle.wrp_tracking_laws.specs.SyncPieces.{Told, SyncHolds}
use Rattle.wrp_tracking_laws.specs.DelayPieces.{DelayHolds}
use Rattle.wrp_tracking_laws.specs.ServoGives.{Tracks}
use Rattle.wrp_tracking_laws.specs.Tree.{Offsets, IsSource, IsBounded}

-- a node: its offset, its ticks, its servo, and the calls of its exchange, the newest first
pub record NodeAt : Type 0 where
  pub off : ℤ
  pub ticks : ℕ
  pub servo : Core
  pub calls : List Call

-- a link: the true one-way delays of its fibre, and those of its ports
pub record LinkAt : Type 0 where
  pub down : ℤ
  pub up : ℤ
  pub ports : Deltas

-- a world: the true time, and its nodes and links by their numbers
pub record WorldAt : Type 0 where
  pub time : ℤ
  pub node : ℕ → NodeAt
  pub link : ℕ → LinkAt

-- what a state shows of one link, which has this number
abbrev pub moment_of : LinkCfg → (l : ℕ) → WorldAt → Moment
moment_of cfg l w = record {
  time = w.time;
  ticks = (w.node cfg.lower).ticks;
  own = (w.node cfg.lower).off;
  parent = (w.node cfg.upper).off;
  down = (pos (w.link l).ports.txm +ℤ (w.link l).down) +ℤ pos (w.link l).ports.rxs;
  up = (pos (w.link l).ports.txs +ℤ (w.link l).up) +ℤ pos (w.link l).ports.rxm;
}

-- what a state shows of all nodes
abbrev pub offsets_of : WorldAt → Offsets
offsets_of w = record { off = λ n. (w.node n).off; state = λ n. (w.node n).servo.state }

-- the state of this number was at most this long ago
pub record WasRecent (at : ℕ) (w : WorldAt) (past : List WorldAt) (time : ℕ) : Type 0 where
  pub state : WorldAt
  pub was : Was (w ∷ past) at state
  pub near : w.time ≤ℤ (state.time +ℤ pos time)

-- the chain of a node: its limits, its good samples and its constant; the newest sample, which gave the servo its u;
-- what is true of the pieces of the exchange; and a parent that it may follow
pub record HopChain (net : NetCfg) (link : LinkCfg) (l : ℕ) (hop : HopNumbers) (w : WorldAt)
    (past : List WorldAt) : Type 0 where
  pub from : ℕ
  pub start : ℕ
  pub constant : ℤ
  pub newest : Good
  pub earlier : List Good
  pub holds : ChainHolds hop (map (moment_of link l) (w ∷ past)) from start constant newest earlier
  pub recent : WasRecent newest.at w past hop.gap_time
  pub u : (w.node link.lower).servo.phase.u ≡ newest.u
  pub said : List Told
  pub answered : List Told
  pub ring : ℕ
  pub sync : SyncHolds hop constant said ring (w.node link.lower).calls
  pub delay :
      DelayHolds hop constant (map (moment_of link l) (w ∷ past)) from answered ring
      (w.node link.lower).calls
  pub source : IsSource net (offsets_of w) link.upper

-- the same with TRACK: the servo holds a measurement within its limits, its four true of the chain, and its delay by an
-- answer of the law
pub record HopTrack (net : NetCfg) (link : LinkCfg) (l : ℕ) (hop : HopNumbers) (w : WorldAt)
    (past : List WorldAt) : Type 0 where
  pub chain : HopChain net link l hop w past
  pub tracks : Tracks hop (w.node link.lower).servo
  pub four_true :
      FourHolds hop (moment_of link l w) (map (moment_of link l) past) chain.from chain.constant
      tracks.kept.four
  pub deltas : Deltas
  pub y : ℤ
  pub delay_is : tracks.kept.delay ≡ delay_of deltas y
  pub answer : IsAnswer hop deltas tracks.kept.four y
  pub fibre : FibreHolds hop (moment_of link l w) deltas

-- a node in HOLDOVER was within its path when it entered, and has drifted within its rate since, at most
-- for the time of HOLDOVER
pub record HopHeld (net : NetCfg) (n : ℕ) (w : WorldAt) (past : List WorldAt) : Type 0 where
  pub own : NodeCfg
  pub own_is : IsNode net n own
  pub entered : ℕ
  pub recent : WasRecent entered w past (held_time net)
  pub within : unsigned_abs (recent.state.node n).off ≤ path_of net n
  pub slow : EachStep (IsSlow (λ v. v.time) own.held (λ v. (v.node n).off)) entered (w ∷ past)

-- all of it, for each node: the grandmaster gives the time, and does not follow
pub record PartsHold (net : NetCfg) (w : WorldAt) (past : List WorldAt) : Type 0 where
  pub top : (n : ℕ) → link_above net n ≡ None → (w.node n).off ≡ pos 0
  pub top_follows_none : (n : ℕ) → link_above net n ≡ None → (w.node n).servo.state ≡ Holdover → ⊥
  pub track :
      (n : ℕ) (link : LinkCfg) → link_above net n ≡ Some link → (w.node n).servo.state ≡ Track →
      (link.lower ≡ n)
      × ((l : ℕ) × (hop : HopNumbers) × (numbers_of net n ≡ Some hop)
      × HopTrack net link l hop w past)
  pub held :
      (n : ℕ) (link : LinkCfg) → link_above net n ≡ Some link →
      (w.node n).servo.state ≡ Holdover → HopHeld net n w past

-- the tracking bound of every node follows from the parts at one state
abbrev pub PartsGiveBound : Type 0
PartsGiveBound =
    (net : NetCfg) (w : WorldAt) (past : List WorldAt) (n : ℕ) →
    IsTree net → n < node_count net → PartsHold net w past → IsBounded net (offsets_of w) n

-- a moment in which the node's servo and exchange stay as they are
pub record StaysPut (link : LinkCfg) (w later : WorldAt) : Type 0 where
  pub servo : (later.node link.lower).servo ≡ (w.node link.lower).servo
  pub calls : (later.node link.lower).calls ≡ (w.node link.lower).calls

-- such a moment within the limits keeps the chain and TRACK, while the newest sample and the four are
-- young and the parent may be followed
abbrev pub MomentKeepsTrack : Type 0
MomentKeepsTrack =
    (net : NetCfg) (link : LinkCfg) (l : ℕ) (hop : HopNumbers) (w later : WorldAt) →
    (past : List WorldAt) (track : HopTrack net link l hop w past) →
    StaysPut link w later →
    PassesSlowly hop (moment_of link l w) (moment_of link l later) →
    later.time ≤ℤ (track.chain.recent.state.time +ℤ pos hop.gap_time) →
    later.time ≤ℤ (track.four_true.delay.sent.time +ℤ pos hop.age_time) →
    IsSource net (offsets_of later) link.upper →
    FibreHolds hop (moment_of link l later) track.deltas →
    HopTrack net link l hop later (w ∷ past)
