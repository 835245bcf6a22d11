-- What the ports at the ends of a network's links are set to (this project's profile).
use Rattle.std.specs.Prelude.{◌≡◌, ℕ}
use Rattle.wrp_network.specs.declared.configuration.NetCfg.{NetCfg}
use Rattle.wrp_network.specs.declared.network.LinkCfg.{LinkCfg}
use Rattle.wrp_network.specs.Network.{IsLink, NamesNoPortTwice}
use Rattle.wrp_node.specs.NodeAt.{port_of}
use Rattle.wrp_node.specs.Set.{master_at, slave_at, set_of}

-- the port of the number that a link names, of the node that it names, is the port at that end
abbrev pub EndsAreSet : Type 0
EndsAreSet =
    (net : NetCfg) (l : ℕ) (link : LinkCfg) → NamesNoPortTwice net → IsLink net l link →
    (port_of (set_of net link.upper) link.upper_port ≡ master_at net link)
    × (port_of (set_of net link.lower) link.lower_port ≡ slave_at net link)
