use Rattle.std.proofs.Common.{◌≡◌, drop, take, map}
use Rattle.toml.specs.View.{view}
use Rattle.wrp_calibration_text.specs.Met.{AreMet}
use Rattle.wrp_caldb.specs.Refusal.{first_among, on_table}
use Rattle.wrp_caldb.specs.Calibration.{place_in_module}
use Rattle.wrp_calibration_text.proofs.judging.place_in_modules.Given as goal

abbrev pub invariant-loop-i : goal.invariant-loop-i
invariant-loop-i l =
    (first_among (λ n d. on_table (place_in_module l.version l.code (map view l.modules) n) d) 0 (map view l.modules)
    ≡ first_among (λ n d. on_table (place_in_module l.version l.code (map view l.modules) n) d) l.i (map view (drop l.i l.modules)))
    × AreMet l.code l.names (take l.i (map view l.modules))
