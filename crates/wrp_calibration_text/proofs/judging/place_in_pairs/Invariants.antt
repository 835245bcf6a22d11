use Rattle.std.proofs.Common.{◌≡◌, drop, map}
use Rattle.toml.specs.View.{view}
use Rattle.wrp_caldb.specs.Refusal.{first_among, on_table}
use Rattle.wrp_caldb.specs.Calibration.{place_in_pair}
use Rattle.wrp_calibration_text.proofs.judging.place_in_pairs.Given as goal

abbrev pub invariant-loop-i : goal.invariant-loop-i
invariant-loop-i l =
    first_among (λ m d. on_table (place_in_pair l.code l.owner (map view l.pairs) m) d) 0 (map view l.pairs)
    ≡ first_among (λ m d. on_table (place_in_pair l.code l.owner (map view l.pairs) m) d) l.i (map view (drop l.i l.pairs))
