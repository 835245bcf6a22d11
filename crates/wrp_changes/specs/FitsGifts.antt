-- Which inputs a node of a network can take, apart from its count of ticks (this project's profile).
use Rattle.std.specs.Prelude.{ℕ, ◌≡◌, ◌<◌, true}
use Rattle.wrp_network.specs.declared.configuration.NetCfg.{NetCfg}
use Rattle.wrp_network.specs.Network.{node_count}
use Rattle.wrp_node.specs.declared.interface.Input.{Input}
use Rattle.wrp_node.specs.declared.interface.Input.TheVariants.{Tick, Sample, Frame, Sent, Carrier, Reset}
use Rattle.wrp_node.specs.Parts.{FitsRaw}
use Rattle.wrp_port.specs.PortAt.{IsStamp}
use Rattle.wrp_course.specs.declared.node_out.NodeOut.{NodeOut}
use Rattle.wrp_course.specs.Setting.{has_port}

-- the port belongs to the node, and numbers are in their ranges
abbrev pub FitsNode : NetCfg → ℕ → Input → Type 0
FitsNode cfg n Tick = Unit {0}
FitsNode cfg n (Sample number base bits) = base < 16_384
FitsNode cfg n (Frame p octets raw sample) = (has_port cfg n p ≡ true) × FitsRaw raw
FitsNode cfg n (Sent p seq delay stamp) = (has_port cfg n p ≡ true) × IsStamp stamp
FitsNode cfg n (Carrier p up own_module) = has_port cfg n p ≡ true
FitsNode cfg n Reset = Unit {0}

-- a listed input goes to a node of the network, which can take it
pub record FitsGift (cfg : NetCfg) (out : NodeOut) : Type 0 where
  pub node : out.node < node_count cfg
  pub input : FitsNode cfg out.node out.input
