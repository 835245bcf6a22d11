use Rattle.std.proofs.Common.{◌≡◌, ◌++◌, drop}
use Rattle.std.specs.String.{string_bytes}
use Rattle.wrp_trace.specs.EventPrinting.{further, drift_texts}
use Rattle.wrp_trace.proofs.events.printing.add_drifts.Given as goal

-- what is left is still to be printed
abbrev pub invariant-loop-n : goal.invariant-loop-n
invariant-loop-n l =
    string_bytes l.text ++ further (drift_texts (drop l.n l.nodes) (drop l.n l.drifts))
    ≡ string_bytes l.fn.text ++ further (drift_texts l.nodes l.drifts)
