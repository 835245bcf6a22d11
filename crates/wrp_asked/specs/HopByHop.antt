-- The aim's part on hops: after each event a node in TRACK is within its hop of its parent, nodes in TRACK below one
-- parent are within the sum of their hops of each other, and if all nodes on the way to the grandmaster are in TRACK,
-- the offset from true time is within the sum of the hops, with no motion of HOLDOVER (this project's profile). All
-- are in tau.
use Rattle.std.specs.Prelude.{◌≡◌, ◌+◌, ◌≤◌, ℕ, unsigned_abs, List, ◌∷◌, Some}
use Rattle.wrp_base.specs.Closeness.{IsWithin}
use Rattle.wrp_network.specs.declared.network.LinkCfg.{LinkCfg}
use Rattle.wrp_network.specs.Network.{link_above}
use Rattle.wrp_bounds.specs.Bounds.{hop_of}
use Rattle.wrp_course.specs.Run.{Happened, world_after}
use Rattle.wrp_course.specs.Setting.{Setting}
use Rattle.wrp_bound_laws.specs.Hops.{FollowsWithin, IsTracking, TracksUp, hops_on}
use Rattle.wrp_asked.specs.EventLines.{AtEachEvent}

-- after these events: a node in TRACK is within its hop of its parent, which is up, and is the grandmaster, or in TRACK
-- or HOLDOVER; two nodes in TRACK below one parent are within the sum of their hops of each other; and if a node and
-- all on its way to the grandmaster are in TRACK, its offset is within the sum of the hops on that way
pub record HopsAreKept (s : Setting) (events : List Happened) : Type 0 where
  pub parent : (n : ℕ) (link : LinkCfg) → link_above s.cfg n ≡ Some link → IsTracking s events n → FollowsWithin s events n link
  pub siblings :
      (m n : ℕ) (one other : LinkCfg) → link_above s.cfg m ≡ Some one → link_above s.cfg n ≡ Some other → one.upper ≡ other.upper →
      IsTracking s events m → IsTracking s events n →
      IsWithin (hop_of s.cfg m + hop_of s.cfg n) ((world_after s events).clock m).off ((world_after s events).clock n).off
  pub way :
      (n : ℕ) (links : List LinkCfg) → TracksUp s events n links →
      unsigned_abs ((world_after s events).clock n).off ≤ hops_on s.cfg links

-- so it is after each event
abbrev pub HopByHop : Setting → List Happened → Type 0
HopByHop s events = AtEachEvent (λ before h. HopsAreKept s (h ∷ before)) events
