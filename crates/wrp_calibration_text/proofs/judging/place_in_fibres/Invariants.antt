use Rattle.std.proofs.Common.{◌≡◌, drop, take, map}
use Rattle.toml.specs.View.{view}
use Rattle.wrp_calibration_text.specs.Met.{AreMet}
use Rattle.wrp_caldb.specs.Refusal.{first_among, on_table}
use Rattle.wrp_caldb.specs.Calibration.{place_in_fibre}
use Rattle.wrp_calibration_text.proofs.judging.place_in_fibres.Given as goal

abbrev pub invariant-loop-i : goal.invariant-loop-i
invariant-loop-i l =
    (first_among (λ n d. on_table (place_in_fibre l.code (map view l.fibres) n) d) 0 (map view l.fibres)
    ≡ first_among (λ n d. on_table (place_in_fibre l.code (map view l.fibres) n) d) l.i (map view (drop l.i l.fibres)))
    × AreMet l.code l.names (take l.i (map view l.fibres))
