-- What the run of a node writes: the lines of its outputs, and at the end its counters that are not 0
-- (this project's profile).
use Rattle.std.specs.Prelude.{◌≡◌, ◌==◌, ℕ, if◌then◌else◌, None, List, [], ◌∷◌, ◌++◌}
use Rattle.std.specs.List.{flat_map}
use Rattle.wrp_network.specs.Network.{name_at}
use Rattle.wrp_data.specs.Counters.{count_at}
use Rattle.wrp_data.specs.Reason.{number_of, reasons}
use Rattle.wrp_lines.specs.Lines.{output_line, count_line_of}
use Rattle.wrp_node.specs.declared.interface.Output.{Output}
use Rattle.wrp_node.specs.NodeAt.{Taken, NodeAt}
use Rattle.wrp_node.specs.NodeRun.{NodeRun, node_after}
use Rattle.wrp_node.specs.OneRun.{answers_by}
use Rattle.wrp_trace.specs.LineSetting.{LineSetting, has_port}
use Rattle.wrp_replay.specs.DownLaw.{law_at, node_setting_at}

-- the lines of a node's outputs at a tick, in their order; the true offset is not known
abbrev pub output_lines : LineSetting → ℕ → List Output → List ℕ
output_lines site tick outs = flat_map (λ o. output_line site.cfg site.node tick o None) outs

-- the run of a node over these inputs, newest first, writes this: for each input the lines of what
-- the node puts out, with its tick count after that input
abbrev pub Writes : LineSetting → List Taken → List ℕ → Type 0
Writes site [] text = text ≡ []
Writes site (t ∷ before) text =
    (earlier : List ℕ) × (outs : List Output) × Writes site before earlier
    × NodeRun (answers_by (law_at site)) (node_setting_at site) before t outs
    × (text ≡ earlier ++ output_lines site (node_after (node_setting_at site) (t ∷ before)).ticks outs)

-- the numbers that a port may have
abbrev pub port_numbers : List ℕ
port_numbers =
    1 ∷ 2 ∷ 3 ∷ 4 ∷ 5 ∷ 6 ∷ 7 ∷ 8 ∷ 9 ∷ 10 ∷ 11 ∷ 12 ∷ 13 ∷ 14 ∷ 15 ∷ 16 ∷ 17 ∷ 18 ∷ []

-- the line of a counter of the node with this name, if it is not 0
abbrev pub nonzero_line : List ℕ → ℕ → ℕ → ℕ → List ℕ
nonzero_line name port reason value =
    if value == 0 then [] else count_line_of name port reason value

-- the lines of the counters of a port, by reason
abbrev pub port_counts : List ℕ → ℕ → List ℕ → List ℕ
port_counts name port counters =
    flat_map
    (λ reason. nonzero_line name port (number_of reason) (count_at counters (number_of reason)))
    reasons

-- the lines of the counters of all ports of a node, by port
abbrev pub node_counts : LineSetting → NodeAt → List ℕ
node_counts site n =
    flat_map
    (λ port.
    if has_port site port
    then port_counts (name_at site.cfg site.node) port (n.counters port)
    else [])
    port_numbers
