-- None of the ports so far has the number.
use Rattle.std.proofs.Common.{◌≡◌, ◌==◌, drop}
use Rattle.std.specs.List.{list_any}
use Rattle.wrp_node.specs.Index.{numbers_in}
use Rattle.wrp_node.proofs.ports.index.look_for.Given as goal

abbrev pub invariant-loop-at : goal.invariant-loop-at
invariant-loop-at l =
    list_any (λ q. q == l.number) (numbers_in (drop l.at l.places)) ≡ list_any (λ q. q == l.number) (numbers_in l.places)
