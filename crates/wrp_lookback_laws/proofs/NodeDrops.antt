-- A node knows of its lease and of WR_LINK_ON after every list of inputs, so that a drop changes only a counter.
use Rattle.std.proofs.Common.{◌≡◌, refl, ap, ℕ, Bool, false, if◌then◌else◌, true, List, [], ◌∷◌, Option, None, Some, is_some}
use Rattle.wrp_base.specs.declared.link.Role.{Role}
use Rattle.wrp_base.specs.declared.link.Role.TheVariants.{Master, Slave}
use Rattle.wrp_node.specs.declared.interface.NodeSet.{NodeSet}
use Rattle.wrp_node.specs.Laws.{IsSettled, DroppedLeavesACount, StepSettles}
use Rattle.wrp_node.specs.NodeAt.{Taken, NodeSetting, slave_of, port_of, link_at, is_fresh_at, is_fresh_in, deltas_at}
use Rattle.wrp_node.specs.NodeRun.{new_node, node_after}
use Rattle.wrp_port.specs.PortAt.{deltas_of}
use Rattle.wrp_servo.specs.Call.{Call, CallLease, CallLink}
use Rattle.wrp_lookback_laws.specs.Drops.{DropsOnlyCount}

fresh-new : (set : NodeSet) (o : Option ℕ) → is_fresh_at set new_node o ≡ false
fresh-new set None = refl
fresh-new set (Some p) = refl

deltas-by : (set : NodeSet) (p : ℕ) (r : Role) → is_some (deltas_of r (link_at set new_node p)) ≡ false
deltas-by set p Master = refl
deltas-by set p Slave = refl

deltas-new : (set : NodeSet) (o : Option ℕ) → is_some (deltas_at set new_node o) ≡ false
deltas-new set None = refl
deltas-new set (Some p) = deltas-by set p (port_of set p).role

nothing-new : (has changes : Bool) (call : Call) → changes ≡ false → (if has then (if changes then Some call else None) else None) ≡ None
nothing-new true changes call e = ap (λ (b : Bool). if b then Some call else None) e
nothing-new false changes call e = refl

settled-after : StepSettles → (fixed : NodeSetting) (before : List Taken) → IsSettled fixed (node_after fixed before)
settled-after settles fixed [] = record {
  lease = nothing-new (is_some (slave_of fixed.set)) (is_fresh_in fixed.set new_node) (CallLease (is_fresh_in fixed.set new_node)) (fresh-new fixed.set (slave_of fixed.set));
  link = nothing-new (is_some (slave_of fixed.set)) (is_some (deltas_at fixed.set new_node (slave_of fixed.set))) (CallLink (deltas_at fixed.set new_node (slave_of fixed.set))) (deltas-new fixed.set (slave_of fixed.set));
}
settled-after settles fixed (t ∷ before) = settles fixed t (node_after fixed before)

pub drops_only_count : StepSettles → DroppedLeavesACount → DropsOnlyCount
drops_only_count settles law fixed before t p octets raw sample reason is e =
    law fixed t (node_after fixed before) p octets raw sample reason is (settled-after settles fixed before) e
