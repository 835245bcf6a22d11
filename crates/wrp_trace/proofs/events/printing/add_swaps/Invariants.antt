use Rattle.std.proofs.Common.{◌≡◌, ◌++◌, map, drop}
use Rattle.std.specs.String.{string_bytes}
use Rattle.wrp_trace.specs.EventPrinting.{further, swap_text}
use Rattle.wrp_trace.proofs.events.printing.add_swaps.Given as goal

-- what is left is still to be printed
abbrev pub invariant-loop-swap : goal.invariant-loop-swap
invariant-loop-swap l =
    string_bytes l.text ++ further (map swap_text (drop l.swap-index l.swaps))
    ≡ string_bytes l.fn.text ++ further (map swap_text l.swaps)
