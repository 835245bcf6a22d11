-- The same handshake at both ends of each link, after every event of every run (this project's profile).
use Rattle.std.specs.Prelude.{◌≡◌, ℕ, true, List, Some}
use Rattle.wrp_base.specs.declared.link.LinkState.{LinkState}
use Rattle.wrp_base.specs.declared.link.LinkState.TheVariants.{LinkOn}
use Rattle.wrp_base.specs.declared.link.Role.{Role}
use Rattle.wrp_base.specs.declared.link.Role.TheVariants.{Master, Slave}
use Rattle.wrp_network.specs.declared.network.LinkCfg.{LinkCfg}
use Rattle.wrp_base.specs.Link.{other_of}
use Rattle.wrp_bounds.specs.Times.{shortest_tick, frame_life}
use Rattle.wrp_check.specs.Handshake.{SameHandshake}
use Rattle.wrp_handshake_laws.specs.Deltas.{KnowsDeltas}
use Rattle.wrp_handshake_laws.specs.Ends.{CanBe}
use Rattle.wrp_node.specs.NodeAt.{link_at}
use Rattle.wrp_course.specs.declared.place.Place.{Place}
use Rattle.wrp_course.specs.LinkEnds.{ends_at, in_place, port_at}
use Rattle.wrp_course.specs.Run.{Happened, world_after}
use Rattle.wrp_course.specs.Runs.{IsRun}
use Rattle.wrp_course.specs.Setting.{Setting, end_of, link_of, place_of}
use Rattle.wrp_course.specs.WorldAt.{WorldAt, has_carrier}

-- the state of the link of a port of a node
abbrev pub state_at : Setting → WorldAt → (n p : ℕ) → LinkState
state_at s w n p = (link_at (s.set n) (w.node n) p).state

-- the histories of the two ends of a link show that the end of this role is in the same handshake as its peer
abbrev pub IsInTheSameHandshake : WorldAt → Place → Type 0
IsInTheSameHandshake w place =
    SameHandshake place.role (w.end_at place.link place.role).marks (w.end_at place.link (other_of place.role)).marks

-- each link is one that can be, as the laws of one link have it: whatever happens in a world is one of the changes of each
-- link, which may come when it does
abbrev pub LinksCanBe : Type 0
LinksCanBe =
    (s : Setting) (events : List Happened) (k : ℕ) (link : LinkCfg) → IsRun s events → link_of s k ≡ Some link →
    CanBe (frame_life s.cfg) (shortest_tick s.cfg) (ends_at s (world_after s events) k link)

-- no port is in WR_LINK_ON unless its peer went through the steps that this requires, in that same handshake
abbrev pub LinkOnInTheSameHandshake : Type 0
LinkOnInTheSameHandshake =
    (s : Setting) (events : List Happened) (n p : ℕ) (place : Place) → IsRun s events → place_of s n p ≡ Some place →
    state_at s (world_after s events) n p ≡ LinkOn → IsInTheSameHandshake (world_after s events) place

-- carriers come and go at both ends of a link in the same event: a port has its carrier if and only if its link has
abbrev pub CarriersAreTheLinks : Type 0
CarriersAreTheLinks =
    (s : Setting) (events : List Happened) (k : ℕ) (r : Role) (link : LinkCfg) → IsRun s events → link_of s k ≡ Some link →
    (port_at s (world_after s events) k r (end_of r link)).link.carrier ≡ has_carrier s (world_after s events) k

-- a port has its carrier only if its link has, and then its module is the one in place
abbrev pub CarriersWithTheirModules : Type 0
CarriersWithTheirModules =
    (s : Setting) (events : List Happened) (k : ℕ) (r : Role) (link : LinkCfg) → IsRun s events → link_of s k ≡ Some link →
    (port_at s (world_after s events) k r (end_of r link)).link.carrier ≡ true →
    (has_carrier s (world_after s events) k ≡ true)
    × ((port_at s (world_after s events) k r (end_of r link)).link.own_module ≡ in_place s (world_after s events) k r)

-- a slave in WR_LINK_ON knows the deltas of the modules that are now in place at both ends, and its master's came in
-- that same handshake
abbrev pub LinkOnWithTheDeltas : Type 0
LinkOnWithTheDeltas =
    (s : Setting) (events : List Happened) (k : ℕ) (link : LinkCfg) → IsRun s events → link_of s k ≡ Some link →
    (port_at s (world_after s events) k Slave (end_of Slave link)).link.state ≡ LinkOn →
    KnowsDeltas (port_at s (world_after s events) k Slave (end_of Slave link)) (in_place s (world_after s events) k Master)
    (in_place s (world_after s events) k Slave)
