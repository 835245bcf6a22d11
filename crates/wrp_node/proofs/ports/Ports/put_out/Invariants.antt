-- What the ports so far put out is there.
use Rattle.std.proofs.Common.{◌≡◌, ◌≤◌, ◌+◌, ◌*◌, ◌++◌, length, take, flat_map}
use Rattle.wrp_node.specs.Place.{place_out}
use Rattle.wrp_node.specs.Spelled.{AllSpelled}
use Rattle.wrp_node.proofs.ports.Ports.put_out.Given as goal

abbrev pub invariant-loop-place : goal.invariant-loop-place
invariant-loop-place l =
    (l.outs.items ≡ l.fn.outs.items ++ flat_map place_out (take l.place-index l.place-items))
    × (length l.outs.items ≤ length l.fn.outs.items + 5 * l.place-index)
    × AllSpelled (take l.place-index l.place-items)
