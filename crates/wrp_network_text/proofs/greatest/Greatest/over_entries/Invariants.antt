use Rattle.std.proofs.Common.{◌≡◌, drop, fold}
use Rattle.wrp_network_text.specs.Greatest.{raised}
use Rattle.wrp_network_text.proofs.greatest.Greatest.over_entries.Given as goal

abbrev pub invariant-loop-entry : goal.invariant-loop-entry
invariant-loop-entry l =
    fold (λ g entry. raised g entry.delays) l.fn.self l.entries
    ≡ fold (λ g entry. raised g entry.delays) l.greatest (drop l.entry-index l.entries)
