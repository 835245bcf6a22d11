-- The replay of a node of a network: which texts describe a network, which lines are inputs of the
-- node, and what they write (this project's profile).
use Rattle.std.specs.Prelude.{◌≡◌, ℕ, ◌+◌, Ok, Err, List, length, map, reverse}
use Rattle.arrayvec.specs.ArrayString.{ArrayString}
use Rattle.wrp_base.specs.declared.fault.ConfFault.TheVariants.{Fault}
use Rattle.wrp_base.specs.declared.fault.TraceFault.{TraceFault}
use Rattle.wrp_config.specs.declared.network.Network.{Network}
use Rattle.wrp_network_text.specs.Reading.{IsReadingOf}
use Rattle.wrp_config.specs.Same.{bare_cfg}
use Rattle.wrp_node.specs.NodeAt.{Taken}
use Rattle.wrp_node.specs.NodeRun.{node_after}
use Rattle.wrp_node.specs.OneRun.{IsRun}
use Rattle.wrp_trace.specs.Inputs.{read_of}
use Rattle.wrp_trace.specs.LineSetting.{LineSetting}
use Rattle.wrp_records.specs.declared.machine.Refusal.{Refusal}
use Rattle.wrp_records.specs.declared.machine.Refusal.TheVariants.{BadTrace, Broken}
use Rattle.wrp_replay.specs.DownLaw.{law_at, node_setting_at}
use Rattle.wrp_records.specs.LineMeaning.{LineMeaning, bars_none, meaning_by}
use Rattle.wrp_replay.specs.NodeText.{Writes, node_counts}
use Rattle.wrp_records.specs.Refusals.{bad_network_line, bad_trace_line}

-- the text describes the network that has this node; what is in the unused room of its names is
-- ignored
pub record IsNetworkOf (text : List ℕ) (site : LineSetting) : Type 0 where
  pub net : Network
  pub reads : IsReadingOf text (Ok net)
  pub cfg : site.cfg ≡ bare_cfg net.cfg
  pub db : site.db ≡ net.db

-- the text describes a network
abbrev pub IsAccepted : List ℕ → Type 0
IsAccepted text = (net : Network) × IsReadingOf text (Ok net)

-- the text describes no network, as this line says
abbrev pub IsRefusedBy : List ℕ → List ℕ → Type 0
IsRefusedBy text line =
    (code : ℕ) × (place : ArrayString) × IsReadingOf text (Err (Fault code place))
    × (line ≡ bad_network_line code place.bytes)

-- each line says its input to the node; the inputs are newest first
abbrev pub AreInputs : LineSetting → List (List ℕ) → List Taken → Type 0
AreInputs site lines inputs =
    map (read_of site) lines ≡ map (λ (t : Taken). Ok t.input) (reverse inputs)

-- the lines are inputs of the node, and this is what its run writes
abbrev pub Accepts : LineSetting → List (List ℕ) → List ℕ → Type 0
Accepts site lines text =
    (inputs : List Taken) × AreInputs site lines inputs × Writes site inputs text

-- after some lines a line is not an input of the node
abbrev pub Refuses : LineSetting → List (List ℕ) → List ℕ → Refusal → List ℕ → Type 0
Refuses site lines line BadTrace last =
    (fault : TraceFault) × (read_of site line ≡ Err fault)
    × (last ≡ bad_trace_line (length lines + 1) fault)
Refuses site lines line Broken last = ⊥

-- at the end the counters that are not 0 are written
abbrev pub Closes : LineSetting → List (List ℕ) → List ℕ → Type 0
Closes site lines last =
    (inputs : List Taken) × AreInputs site lines inputs
    × IsRun (law_at site) (node_setting_at site) inputs
    × (last ≡ node_counts site (node_after (node_setting_at site) inputs))

-- what the record lines mean
abbrev pub meaning_of : LineSetting → LineMeaning
meaning_of site = meaning_by (Accepts site) (Refuses site) (Closes site) bars_none
