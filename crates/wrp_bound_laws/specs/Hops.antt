-- What each hop keeps in every run: a node in TRACK is within its hop of its parent, which is up, and is the
-- grandmaster, or in TRACK or HOLDOVER; two nodes in TRACK below one parent are within the sum of their hops of each
-- other; and if all nodes on the way to the grandmaster are in TRACK, the offset is within the sum of their hops, with
-- no motion of HOLDOVER (this project's profile).
use Rattle.std.specs.Prelude.{◌≡◌, ◌+◌, ◌≤◌, ℕ, true, unsigned_abs, List, [], ◌∷◌, None, Some}
use Rattle.wrp_base.specs.Closeness.{IsWithin}
use Rattle.wrp_network.specs.declared.configuration.NetCfg.{NetCfg}
use Rattle.wrp_base.specs.declared.link.ServoState.TheVariants.{Track}
use Rattle.wrp_network.specs.declared.network.LinkCfg.{LinkCfg}
use Rattle.wrp_network.specs.Network.{link_above}
use Rattle.wrp_bounds.specs.Bounds.{hop_of}
use Rattle.wrp_node.specs.NodeAt.{state_of}
use Rattle.wrp_course.specs.Run.{Happened, world_after}
use Rattle.wrp_course.specs.Setting.{Setting, node_setting_of}
use Rattle.wrp_bound_laws.specs.Bounds.{TrueRun}
use Rattle.wrp_bound_laws.specs.Leases.{HasSource}

-- after these events the node is in TRACK
abbrev pub IsTracking : Setting → List Happened → ℕ → Type 0
IsTracking s events n = state_of (node_setting_of s n) ((world_after s events).node n) ≡ Track

-- One hop

-- the node below a link is within its hop of its parent, which is up, and is the grandmaster, or in TRACK or HOLDOVER
pub record FollowsWithin (s : Setting) (events : List Happened) (n : ℕ) (link : LinkCfg) : Type 0 where
  pub hop : IsWithin (hop_of s.cfg n) ((world_after s events).clock n).off ((world_after s events).clock link.upper).off
  pub up : ((world_after s events).clock link.upper).up ≡ true
  pub source : HasSource s link events

-- this holds of each node in TRACK
abbrev pub TracksFollow : Type 0
TracksFollow =
    (s : Setting) (events : List Happened) (n : ℕ) (link : LinkCfg) → TrueRun s events → link_above s.cfg n ≡ Some link →
    IsTracking s events n → FollowsWithin s events n link

-- two nodes in TRACK below one parent
abbrev pub SiblingsAgree : Type 0
SiblingsAgree =
    (s : Setting) (events : List Happened) (m n : ℕ) (one other : LinkCfg) → TrueRun s events →
    link_above s.cfg m ≡ Some one → link_above s.cfg n ≡ Some other → one.upper ≡ other.upper →
    IsTracking s events m → IsTracking s events n →
    IsWithin (hop_of s.cfg m + hop_of s.cfg n) ((world_after s events).clock m).off ((world_after s events).clock n).off

-- The whole way

-- these links lead from the node up to the grandmaster, the node's own first, and each node below one of them is in TRACK
abbrev pub TracksUp : Setting → List Happened → ℕ → List LinkCfg → Type 0
TracksUp s events n [] = link_above s.cfg n ≡ None
TracksUp s events n (link ∷ links) =
    (link_above s.cfg n ≡ Some link) × IsTracking s events n × TracksUp s events link.upper links

-- the sum of the hops of the nodes below these links
abbrev pub hops_on : NetCfg → List LinkCfg → ℕ
hops_on cfg [] = 0
hops_on cfg (link ∷ links) = hop_of cfg link.lower + hops_on cfg links

-- the offset from true time is within that sum
abbrev pub TracksAddUp : Type 0
TracksAddUp =
    (s : Setting) (events : List Happened) (n : ℕ) (links : List LinkCfg) → TrueRun s events →
    TracksUp s events n links → unsigned_abs ((world_after s events).clock n).off ≤ hops_on s.cfg links
