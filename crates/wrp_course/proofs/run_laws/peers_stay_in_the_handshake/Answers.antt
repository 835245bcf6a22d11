-- By what holds of one link by itself, since each link of a run is one that can be.
use Rattle.wrp_course.proofs.StayingPeers.{peers_stay}
use Rattle.wrp_course.proofs.run_laws.peers_stay_in_the_handshake.Goals as goal

pub returns : goal.returns
returns c =
    peers_stay c.link_on_in_the_same_handshake.ensures.links c.master_stays_from_lock.ensures c.slave_stays_from_locked.ensures
