-- Each end of a link stays in the handshake that the other relies on: each link is one that can be.
use Rattle.wrp_bounds.specs.Times.{shortest_tick, frame_life}
use Rattle.wrp_handshake_laws.specs.Ends.{CanBe, BothPorts}
use Rattle.wrp_handshake_laws.specs.Laws.{MasterStaysFromLock, SlaveStaysFromLocked}
use Rattle.wrp_course.specs.LinkEnds.{ends_at}
use Rattle.wrp_course.specs.PeersStay.{PeersStayInTheHandshake}
use Rattle.wrp_course.specs.Run.{world_after}
use Rattle.wrp_course.specs.SameHandshake.{LinksCanBe}

pub peers_stay : LinksCanBe → MasterStaysFromLock → SlaveStaysFromLocked → PeersStayInTheHandshake
peers_stay links from_lock from_locked s events k link run is =
    let ends : BothPorts = ends_at s (world_after s events) k link in
    let can : CanBe (frame_life s.cfg) (shortest_tick s.cfg) ends = links s events k link run is in
    record {
      master = λ at moved. from_lock (frame_life s.cfg) (shortest_tick s.cfg) ends at can moved;
      slave = λ at moved. from_locked (frame_life s.cfg) (shortest_tick s.cfg) ends at can moved;
    }
