-- What is true of every step of a node (this project's profile).
use Rattle.std.specs.Prelude.{◌≡◌, ℕ, List, [], Option, None, Some, Result, Ok, Err}
use Rattle.std.specs.Option.{option_map}
use Rattle.wrp_base.specs.declared.message.PtpMsg.{PtpMsg}
use Rattle.wrp_base.specs.declared.time.Raw.{Raw}
use Rattle.wrp_data.specs.Reason.{number_of}
use Rattle.wrp_frame.specs.declared.fault.FrameFault.{FrameFault}
use Rattle.wrp_frame.specs.Faults.{fault_number}
use Rattle.wrp_node.specs.declared.interface.Input.TheVariants.{Frame}
use Rattle.wrp_node.specs.NodeAt.{Taken, NodeSetting, NodeAt, setting_of, link_at}
use Rattle.wrp_node.specs.NodeRun.{outputs_of}
use Rattle.wrp_node.specs.NodeStep.{dropped, node_step}
use Rattle.wrp_node.specs.Telling.{lease_change, link_change}
use Rattle.wrp_port.specs.Hearing.{early_reason}

-- between inputs the servo knows of the lease and of WR_LINK_ON: there is nothing to give it
pub record IsSettled (fixed : NodeSetting) (n : NodeAt) : Type 0 where
  pub lease : lease_change fixed n ≡ None
  pub link : link_change fixed n ≡ None

-- the number of the reason, 1 to 12, for which a frame is dropped whatever its kind
abbrev pub reason_of : NodeSetting → NodeAt → ℕ → Result PtpMsg FrameFault → Option ℕ
reason_of fixed n p (Err fault) = Some (fault_number fault)
reason_of fixed n p (Ok message) = option_map number_of (early_reason (setting_of fixed.set p) (link_at fixed.set n p) message)

-- a frame that is dropped for a reason of 1 to 12 raises one counter, and nothing else changes; nothing is put out
pub record LeavesACount (fixed : NodeSetting) (t : Taken) (n : NodeAt) (p reason : ℕ) : Type 0 where
  pub node : node_step fixed t n ≡ dropped p reason n
  pub silent : outputs_of fixed t.input n (node_step fixed t n) ≡ []

-- so it is for every frame with such a reason, at a node with nothing to give its servo
abbrev pub DroppedLeavesACount : Type 0
DroppedLeavesACount =
    (fixed : NodeSetting) (t : Taken) (n : NodeAt) (p : ℕ) (octets : List ℕ) (raw : Raw) (sample reason : ℕ) →
    t.input ≡ Frame p (record { items = octets }) raw sample → IsSettled fixed n → reason_of fixed n p t.says ≡ Some reason →
    LeavesACount fixed t n p reason

-- after every input the servo knows of the lease and of WR_LINK_ON
abbrev pub StepSettles : Type 0
StepSettles = (fixed : NodeSetting) (t : Taken) (n : NodeAt) → IsSettled fixed (node_step fixed t n).node
