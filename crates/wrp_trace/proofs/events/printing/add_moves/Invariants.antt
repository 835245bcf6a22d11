use Rattle.std.proofs.Common.{◌≡◌, ◌++◌, drop}
use Rattle.std.specs.String.{string_bytes}
use Rattle.wrp_trace.specs.EventPrinting.{further, move_texts}
use Rattle.wrp_trace.proofs.events.printing.add_moves.Given as goal

-- what is left is still to be printed
abbrev pub invariant-loop-l : goal.invariant-loop-l
invariant-loop-l l =
    string_bytes l.text ++ further (move_texts (drop l.l l.links) (drop l.l l.moves))
    ≡ string_bytes l.fn.text ++ further (move_texts l.links l.moves)
