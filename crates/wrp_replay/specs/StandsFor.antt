-- What a replayed node stands for: the lines that it has taken (this project's profile).
use Rattle.std.specs.Prelude.{◌≡◌, ℕ, ℤ, pos, true, IfSome, List, ◌∷◌}
use Rattle.wrp_network.specs.Network.{name_at}
use Rattle.wrp_bounds.specs.Bounds.{path_of}
use Rattle.wrp_config.specs.Same.{bare_cfg}
use Rattle.wrp_node.specs.Control.{law_in}
use Rattle.wrp_node.specs.declared.interface.Input.{Input}
use Rattle.wrp_node.specs.declared.interface.Output.{Output}
use Rattle.wrp_node.specs.declared.place.PortPlace.{PortPlace}
use Rattle.wrp_node.specs.Node.{IsValid}
use Rattle.wrp_node.specs.NodeAt.{Taken}
use Rattle.wrp_node.specs.NodeRun.{NodeRun, node_after}
use Rattle.wrp_node.specs.OneRun.{answers_by}
use Rattle.wrp_node.specs.Parts.{is_among}
use Rattle.wrp_node.specs.StandsFor.{NodeOf, StandsFor}
use Rattle.wrp_trace.specs.LineSetting.{LineSetting, has_port}
use Rattle.wrp_replay.specs.declared.replayed_node.ReplayedNode.{ReplayedNode}
use Rattle.wrp_replay.specs.declared.replayed.Replayed.{Replayed}
use Rattle.wrp_replay.specs.DownLaw.{AnswersBy, law_at, node_setting_at}
use Rattle.wrp_replay.specs.NodeText.{Writes, output_lines}
use Rattle.wrp_replay.specs.Replays.{AreInputs}

-- the ports that links name are among these
abbrev pub OwnsPorts : LineSetting → List PortPlace → Type 0
OwnsPorts site places = (p : ℕ) → has_port site p ≡ true → is_among p places ≡ true

-- the node that is replayed, in the network without what is in the unused room of its names
abbrev pub line_setting_at : Replayed → LineSetting
line_setting_at replayed = record {
  cfg = bare_cfg replayed.net.now.cfg;
  db = replayed.net.now.db;
  node = replayed.node;
}

-- the node is in the state that the lines it has taken led to, and they wrote this
pub record TakenSo {F : Type 0} (post : F → ℤ → ℤ → Type 0) (held : ReplayedNode F)
    (lines : List (List ℕ)) (inputs : List Taken) (text : List ℕ) : Type 0 where
  pub are : AreInputs (line_setting_at held.replayed) lines inputs
  pub writes : Writes (line_setting_at held.replayed) inputs text
  pub stands : StandsFor post (node_setting_at (line_setting_at held.replayed)) held.node inputs

abbrev pub HasTaken : {F : Type 0} → (F → ℤ → ℤ → Type 0) → ReplayedNode F → List (List ℕ) → Type 0
HasTaken post held lines = (inputs : List Taken) × (text : List ℕ) × TakenSo post held lines inputs text

-- it can take a line: it is a node of an accepted network, its law is the law of the link above it,
-- and its name and its bound in TRACK are at hand
pub record IsReady {F : Type 0} (pre : F → ℤ → Type 0) (post : F → ℤ → ℤ → Type 0)
    (held : ReplayedNode F) : Type 0 where
  pub valid : IsValid pre post held.node
  pub law : IfSome (law_in held.node.control) (AnswersBy post (law_at (line_setting_at held.replayed)))
  pub ports : OwnsPorts (line_setting_at held.replayed) held.node.parts.ports
  pub name : held.name.now ≡ name_at (line_setting_at held.replayed).cfg held.replayed.node
  pub bound : held.bound ≡ pos (path_of (line_setting_at held.replayed).cfg held.replayed.node)

-- the node took an input: for each list of inputs that it stood for, it now stands for this list with
-- the new input in front; and the lines of its run are written
pub record TookInput {F : Type 0} (post : F → ℤ → ℤ → Type 0) (held : ReplayedNode F)
    (new : NodeOf F) (input : Input) (inputs : List Taken) (text : List ℕ) : Type 0 where
  pub taken : Taken
  pub is : taken.input ≡ input
  pub outs : List Output
  pub stands : StandsFor post (node_setting_at (line_setting_at held.replayed)) new (taken ∷ inputs)
  pub run : NodeRun (answers_by (law_at (line_setting_at held.replayed))) (node_setting_at (line_setting_at held.replayed)) inputs taken outs
  pub wrote : text ≡ output_lines (line_setting_at held.replayed) (node_after (node_setting_at (line_setting_at held.replayed)) (taken ∷ inputs)).ticks outs
