-- The link states of a node's ports (White Rabbit Specification 2.0).
use Rattle.std.specs.Prelude.{ℕ, ◌==◌, if◌then◌else◌, List, [], ◌∷◌}
use Rattle.wrp_base.specs.declared.link.LinkState.{LinkState}
use Rattle.wrp_base.specs.declared.link.LinkState.TheVariants.{Idle}
use Rattle.wrp_node.specs.declared.place.PortPlace.{PortPlace}
use Rattle.wrp_node.specs.declared.ports.states.PortState.{PortState}
use Rattle.wrp_node.specs.NodeAt.{NodeSetting, NodeAt, link_at}

-- a port and the state of its link
abbrev pub port_state : PortPlace → PortState
port_state place = record { port = place.number; state = place.port.line.link.state }

-- the state of a port among these, IDLE if it is not among them
abbrev pub state_in : ℕ → List PortState → LinkState
state_in p [] = Idle
state_in p (port ∷ ports) = if port.port == p then port.state else state_in p ports

-- the state of a port's link
abbrev pub state_at : ℕ → NodeSetting → NodeAt → LinkState
state_at p fixed n = (link_at fixed.set n p).state
