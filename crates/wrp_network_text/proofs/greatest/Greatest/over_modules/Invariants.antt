use Rattle.std.proofs.Common.{◌≡◌, drop, fold}
use Rattle.wrp_network_text.specs.Greatest.{over_entries}
use Rattle.wrp_network_text.proofs.greatest.Greatest.over_modules.Given as goal

abbrev pub invariant-loop-listed : goal.invariant-loop-listed
invariant-loop-listed l =
    fold (λ g m. over_entries g m.entries) l.fn.self l.modules
    ≡ fold (λ g m. over_entries g m.entries) l.greatest (drop l.listed-index l.modules)
