-- Drops at a node, after every list of its inputs (this project's profile).
use Rattle.std.specs.Prelude.{◌≡◌, ℕ, List, Some}
use Rattle.wrp_base.specs.declared.time.Raw.{Raw}
use Rattle.wrp_node.specs.declared.interface.Input.TheVariants.{Frame}
use Rattle.wrp_node.specs.Laws.{LeavesACount, reason_of}
use Rattle.wrp_node.specs.NodeAt.{Taken, NodeSetting}
use Rattle.wrp_node.specs.NodeRun.{node_after}

-- after whatever inputs, a frame that is dropped for a reason of 1 to 12 raises one counter, and nothing else changes;
-- nothing is put out
abbrev pub DropsOnlyCount : Type 0
DropsOnlyCount =
    (fixed : NodeSetting) (before : List Taken) (t : Taken) (p : ℕ) (octets : List ℕ) (raw : Raw) (sample reason : ℕ) →
    t.input ≡ Frame p (record { items = octets }) raw sample →
    reason_of fixed (node_after fixed before) p t.says ≡ Some reason →
    LeavesACount fixed t (node_after fixed before) p reason
