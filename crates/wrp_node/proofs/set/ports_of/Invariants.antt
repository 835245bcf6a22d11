-- The ports at the links so far are there.
use Rattle.std.proofs.Common.{◌≡◌, take}
use Rattle.std.specs.List.{flat_map}
use Rattle.wrp_node.specs.Set.{ports_at}
use Rattle.wrp_node.proofs.set.ports_of.Given as goal

abbrev pub invariant-loop-link : goal.invariant-loop-link
invariant-loop-link l = l.ports.items ≡ flat_map (ports_at l.fn.net l.fn.n) (take l.link-index l.fn.net.links.items)
