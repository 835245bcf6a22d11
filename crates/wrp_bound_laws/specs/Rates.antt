-- How fast clocks and fibres move in a run (this project's profile). Rates are in 10^-12.
use Rattle.std.specs.Prelude.{◌≡◌, ℕ, pos, max, true, if◌then◌else◌, is_some, List, ◌∷◌, None, Some}
use Rattle.wrp_network.specs.declared.network.LinkCfg.{LinkCfg}
use Rattle.wrp_network.specs.Network.{link_above}
use Rattle.wrp_bounds.specs.Bounds.{numbers_of}
use Rattle.wrp_bounds.specs.declared.numbers.HopNumbers.{HopNumbers}
use Rattle.wrp_node.specs.NodeAt.{servo_at}
use Rattle.wrp_tracking_laws.specs.Chain.{PassesSlowly}
use Rattle.wrp_tracking_laws.specs.History.{IsSlow}
use Rattle.wrp_tracking_laws.specs.Moment.{MovesSlowly}
use Rattle.wrp_tracking_laws.specs.Tree.{IsSource}
use Rattle.wrp_course.specs.Run.{Happened, world_after}
use Rattle.wrp_course.specs.Runs.{IsRun}
use Rattle.wrp_course.specs.Setting.{Setting, node_setting_of, link_of, of_node}
use Rattle.wrp_bound_laws.specs.Leases.{IsCarried}
use Rattle.wrp_bound_laws.specs.Views.{moment_at, offsets_at}

-- the grandmaster's clock shows true time
abbrev pub TopIsTrue : Type 0
TopIsTrue =
    (s : Setting) (events : List Happened) (n : ℕ) → IsRun s events → link_above s.cfg n ≡ None →
    ((world_after s events).clock n).off ≡ pos 0

-- the greatest rate of a node that may be followed: it is locked, or in HOLDOVER; the grandmaster's is 0
abbrev pub greatest_rate : Setting → ℕ → ℕ
greatest_rate s n =
    if is_some (link_above s.cfg n) then max (of_node (λ node. node.slew) s n) (of_node (λ node. node.held) s n) else 0

-- a node that may be followed, and is up, moves no faster than this rate in an event
abbrev pub SourceMovesSlowly : Type 0
SourceMovesSlowly =
    (s : Setting) (h : Happened) (before : List Happened) (n : ℕ) → IsRun s (h ∷ before) →
    IsSource s.cfg (offsets_at s (world_after s before)) n → ((world_after s before).clock n).up ≡ true →
    IsSlow (λ w. w.time) (greatest_rate s n) (λ w. (w.clock n).off) (world_after s before) (world_after s (h ∷ before))

-- both ways of a link that has its carrier move at most at a rate of 2 in an event
abbrev pub WaysMoveSlowly : Type 0
WaysMoveSlowly =
    (s : Setting) (h : Happened) (before : List Happened) (k : ℕ) (link : LinkCfg) → IsRun s (h ∷ before) →
    link_of s k ≡ Some link → IsCarried s k before →
    MovesSlowly 2 (λ m. m.down) (moment_at k link (world_after s before)) (moment_at k link (world_after s (h ∷ before)))
    × MovesSlowly 2 (λ m. m.up) (moment_at k link (world_after s before)) (moment_at k link (world_after s (h ∷ before)))

-- the servo of a node has a chain
abbrev pub HasChain : Setting → ℕ → List Happened → Type 0
HasChain s n events = is_some (servo_at (node_setting_of s n) ((world_after s events).node n)).first ≡ true

-- while the servo below a link has a chain, an event moves nothing of the link faster than the bound of its hop takes
-- it
abbrev pub ChainPassesSlowly : Type 0
ChainPassesSlowly =
    (s : Setting) (h : Happened) (before : List Happened) (k : ℕ) (link : LinkCfg) (hop : HopNumbers) → IsRun s (h ∷ before) →
    link_of s k ≡ Some link → numbers_of s.cfg link.lower ≡ Some hop → HasChain s link.lower before → HasChain s link.lower (h ∷ before) →
    PassesSlowly hop (moment_at k link (world_after s before)) (moment_at k link (world_after s (h ∷ before)))
