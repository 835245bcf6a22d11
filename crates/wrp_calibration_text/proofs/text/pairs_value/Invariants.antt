use Rattle.std.proofs.Common.{◌≡◌, ◌++◌, drop, map}
use Rattle.toml.specs.Data.{table}
use Rattle.toml.specs.View.{view}
use Rattle.wrp_calibration_text.specs.Text.{pair_members}
use Rattle.wrp_calibration_text.proofs.text.pairs_value.Given as goal

abbrev pub invariant-loop-entry : goal.invariant-loop-entry
invariant-loop-entry l =
    map (λ x. table (pair_members x)) l.entries
    ≡ map view l.pairs.items ++ map (λ x. table (pair_members x)) (drop l.entry-index l.entries)
