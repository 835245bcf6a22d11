-- The two ends of a link of a world as the laws of one link by itself see them (this project's profile).
use Rattle.std.specs.Prelude.{ℕ, List, [], ◌∷◌, Option, None, Some}
use Rattle.wrp_base.specs.declared.link.Module.{Module}
use Rattle.wrp_base.specs.declared.link.Role.{Role}
use Rattle.wrp_base.specs.declared.link.Role.TheVariants.{Master, Slave}
use Rattle.wrp_network.specs.declared.network.LinkCfg.{LinkCfg}
use Rattle.wrp_network.specs.Network.{End}
use Rattle.wrp_handshake_laws.specs.Ends.{Port, BothPorts, Sending as Message}
use Rattle.wrp_node.specs.NodeAt.{link_at}
use Rattle.wrp_course.specs.Given.{in_body}
use Rattle.wrp_course.specs.Setting.{Setting, end_of, entry_at}
use Rattle.wrp_course.specs.WorldAt.{Sending, WorldAt}

-- the White Rabbit messages that were sent, the newest first, with one more if there is one
abbrev pub sent_with : Option Message → List Message → List Message
sent_with None sent = sent
sent_with (Some m) sent = m ∷ sent

-- the White Rabbit messages among the frames that a port ever put out
abbrev pub link_sent : List Sending → List Message
link_sent [] = []
link_sent (x ∷ xs) = sent_with (in_body x.message.body x.at) (link_sent xs)

-- the port at an end of a link
abbrev pub port_at : Setting → WorldAt → ℕ → Role → End → Port
port_at s w k r end = record {
  link = link_at (s.set end.node) (w.node end.node) end.port;
  ticked = (w.clock end.node).ticked;
  marks = (w.end_at k r).marks;
  sent = link_sent (w.end_at k r).sent;
}

-- both ends of a link
abbrev pub ends_at : Setting → WorldAt → ℕ → LinkCfg → BothPorts
ends_at s w k link =
    record { time = w.time; master = port_at s w k Master (end_of Master link); slave = port_at s w k Slave (end_of Slave link) }

-- the entry of the module in place at an end, if it is listed there
abbrev pub in_place : Setting → WorldAt → ℕ → Role → Option Module
in_place s w k r = entry_at s k r (w.end_at k r).name
