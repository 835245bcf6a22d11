-- What the exchange of a slave keeps while its servo has a chain: its pairs give the chain's constant (this project's
-- profile).
use Rattle.std.specs.Prelude.{◌≡◌, ◌≤◌, ◌+ℤ◌, ◌-ℤ◌, ℕ, List, ◌∷◌, ◌++◌, length, Some, IfSome}
use Rattle.wrp_network.specs.declared.network.LinkCfg.{LinkCfg}
use Rattle.wrp_base.specs.Closeness.{IsWithin}
use Rattle.wrp_bounds.specs.Bounds.{numbers_of}
use Rattle.wrp_bounds.specs.Hop.{down_error}
use Rattle.wrp_bounds.specs.declared.numbers.HopNumbers.{HopNumbers}
use Rattle.wrp_exch.specs.Call.{Call}
use Rattle.wrp_exch.specs.DelayPair.{delay_pair}
use Rattle.wrp_exch.specs.SyncPair.{sync_pair}
use Rattle.wrp_node.specs.NodeAt.{pieces_at}
use Rattle.wrp_tracking_laws.specs.DelayPieces.{PairTrue}
use Rattle.wrp_course.specs.Run.{Happened, world_after}
use Rattle.wrp_course.specs.Runs.{IsRun}
use Rattle.wrp_course.specs.Setting.{Setting, link_of}
use Rattle.wrp_bound_laws.specs.Chains.{AllFit, ChainRuns}
use Rattle.wrp_bound_laws.specs.Views.{moments_of}

-- the calls of the exchange below a link, the newest first
abbrev pub exchange_at : Setting → LinkCfg → List Happened → List Call
exchange_at s link events = pieces_at (s.set link.lower) ((world_after s events).node link.lower) link.lower_port

-- how many good samples it keeps
abbrev pub ring_below : Setting → LinkCfg → ℕ
ring_below s link = (s.set link.lower).ring

-- the earlier events of a run, after which the chain that is there after all events was there already
pub record IsInChain {s : Setting} {events : List Happened} {k : ℕ} {link : LinkCfg} {hop : HopNumbers}
    (chain : ChainRuns s events k link hop) (since earlier : List Happened) : Type 0 where
  pub splits : events ≡ since ++ earlier
  pub begun : length (chain.start ∷ chain.before) ≤ length earlier

-- a Sync pair that the exchange kept in the chain gives the chain's constant
abbrev pub SyncsTell : Type 0
SyncsTell =
    (s : Setting) (events : List Happened) (k : ℕ) (link : LinkCfg) (hop : HopNumbers) → IsRun s events → AllFit events →
    link_of s k ≡ Some link → numbers_of s.cfg link.lower ≡ Some hop →
    (chain : ChainRuns s events k link hop) (since earlier : List Happened) → IsInChain chain since earlier →
    IfSome (sync_pair (ring_below s link) (exchange_at s link earlier))
    (λ p. IsWithin (down_error hop) ((p.t1 -ℤ p.t2) +ℤ p.u2) chain.constant)

-- a delay pair gives the constant and both ways, as they were when its Delay_Req departed in the chain
abbrev pub DelaysTell : Type 0
DelaysTell =
    (s : Setting) (events : List Happened) (k : ℕ) (link : LinkCfg) (hop : HopNumbers) → IsRun s events → AllFit events →
    link_of s k ≡ Some link → numbers_of s.cfg link.lower ≡ Some hop →
    (chain : ChainRuns s events k link hop) (since earlier : List Happened) → IsInChain chain since earlier →
    IfSome (delay_pair (ring_below s link) (exchange_at s link earlier))
    (PairTrue hop chain.constant (moments_of s k link events) (length (chain.start ∷ chain.before)))
