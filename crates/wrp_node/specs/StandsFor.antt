-- The list of inputs that a node stands for: each of its parts is what the run of the node says (this project's profile).
use Rattle.std.specs.Prelude.{◌≡◌, ℕ, ℤ, true, List, ◌∷◌, Result}
use Rattle.wrp_base.specs.declared.message.PtpMsg.{PtpMsg}
use Rattle.wrp_frame.specs.declared.fault.FrameFault.{FrameFault}
use Rattle.wrp_node.specs.Control.{ControlOf, ControlStands}
use Rattle.wrp_node.specs.declared.interface.Input.{Input}
use Rattle.wrp_node.specs.declared.interface.Output.{Output}
use Rattle.wrp_node.specs.declared.parts.Parts.{Parts}
use Rattle.wrp_node.specs.NodeAt.{Taken, NodeSetting, NodeAt}
use Rattle.wrp_node.specs.NodeRun.{AllSaid, IsSaid, node_after, outputs_at}
use Rattle.wrp_node.specs.NodeStep.{node_step}
use Rattle.wrp_node.specs.Parts.{PartsAt, PartsIn}
use Rattle.wrp_node.specs.Sends.{is_own_port}
use Rattle.wrp_node.specs.Spelled.{AreSpelled}
use Rattle.wrp_node.specs.Telling.{Step}

-- what a node is seen as: its servo, if it has one, and all the rest
pub record NodeOf (F : Type 0) : Type 0 where
  pub parts : Parts
  pub control : ControlOf F
  -- the ticks from one track report to the next
  pub report : ℕ

-- each part of a node stands for what it was given
pub record IsAt {F : Type 0} (post : F → ℤ → ℤ → Type 0) (fixed : NodeSetting) (n : NodeAt) (node : NodeOf F) : Type 0 where
  pub parts : PartsAt fixed n node.parts
  pub control : ControlStands post fixed n.calls node.control
  pub report : node.report ≡ fixed.set.report

-- the node stands for these inputs, newest first
pub record StandsFor {F : Type 0} (post : F → ℤ → ℤ → Type 0) (fixed : NodeSetting) (node : NodeOf F) (inputs : List Taken) : Type 0 where
  pub said : AllSaid inputs
  pub is_at : IsAt post fixed (node_after fixed inputs) node

-- a node took an input, whose octets say this and at which the law answered so: it put out what its run says, and stands for its inputs with this one in front
pub record Steps {F : Type 0} (post : F → ℤ → ℤ → Type 0) (old new : NodeOf F) (t : Taken) (put_out : List Output) : Type 0 where
  pub said : IsSaid t.input t.says
  pub outputs : (fixed : NodeSetting) (before : List Taken) → StandsFor post fixed old before → put_out ≡ outputs_at fixed before t
  pub stands : (fixed : NodeSetting) (before : List Taken) → StandsFor post fixed old before → StandsFor post fixed new (t ∷ before)
  -- the octets of what its ports send spell it
  pub spelled :
      (fixed : NodeSetting) (before : List Taken) → StandsFor post fixed old before → (p : ℕ) → is_own_port fixed p ≡ true →
      AreSpelled ((node_step fixed t (node_after fixed before)).sends p)

-- an input was taken, with what its octets say and with an answer of the law
abbrev pub Took : {F : Type 0} → (F → ℤ → ℤ → Type 0) → NodeOf F → NodeOf F → Input → List Output → Type 0
Took post old new input put_out =
    (says : Result PtpMsg FrameFault) × (answer : ℤ) × Steps post old new (record { input = input; says = says; answer = answer }) put_out

-- ---- on the way through an input

-- each part of a node stands for what the input has made of it so far; `before` is the node as the input found it
pub record IsIn {F : Type 0} (post : F → ℤ → ℤ → Type 0) (fixed : NodeSetting) (before : NodeAt) (s : Step) (node : NodeOf F) : Type 0 where
  pub parts : PartsIn fixed before s node.parts
  pub control : ControlStands post fixed s.node.calls node.control
  pub report : node.report ≡ fixed.set.report
