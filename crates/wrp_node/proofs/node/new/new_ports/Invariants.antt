-- The ports so far are made.
use Rattle.std.proofs.Common.{◌≡◌, take, length}
use Rattle.std.specs.List.{AllZip}
use Rattle.wrp_node.specs.New.{IsNewPlace}
use Rattle.wrp_node.specs.NodeAt.{in_order}
use Rattle.wrp_node.proofs.node.new.new_ports.Given as goal

abbrev pub invariant-loop-ds : goal.invariant-loop-ds
invariant-loop-ds l =
    AllZip (IsNewPlace l.fn.cfg) (take l.ds-index (in_order l.fn.cfg.ports.items)) l.places.items
    × (length l.places.items ≡ l.ds-index)
