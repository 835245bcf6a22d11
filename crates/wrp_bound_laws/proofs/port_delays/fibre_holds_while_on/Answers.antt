use Rattle.wrp_bound_laws.proofs.Hops.PortDelays.{fibre_holds_while_on}
use Rattle.wrp_bound_laws.proofs.port_delays.fibre_holds_while_on.Goals as goal

pub returns : goal.returns
returns c =
    fibre_holds_while_on c.link_on_in_the_same_handshake.ensures.deltas c.link_on_in_the_same_handshake.ensures.carriers c.fibres_keep_their_share.ensures
