-- The answer of a calibration from the ends that it keeps (this project's profile).
use Rattle.std.specs.Prelude.{Option, Some, None, Result, Err}
use Rattle.wrp_calib.specs.declared.span.Span.{Span}
use Rattle.wrp_calib.specs.declared.run.RunKind.TheVariants.{Ref, Straight, Swapped}
use Rattle.wrp_calib.specs.declared.run.Ends.{Ends}
use Rattle.wrp_calib.specs.declared.calibration.CalibOut.{CalibOut}
use Rattle.wrp_calib.specs.declared.calibration.CalibFault.{CalibFault}
use Rattle.wrp_calib.specs.declared.calibration.CalibFault.TheVariants.{Missing}
use Rattle.wrp_calib.specs.Span.{meet, both_ends}
use Rattle.wrp_calib.specs.Estimate.{Errors, ports_interval, strand_interval}
use Rattle.wrp_calib.specs.Answer.{judged}
use Rattle.wrp_calib.specs.StandsFor.{CalibAt}

-- the ports' interval from the ends over the patch cord
abbrev pub ports_at : Errors → Span → Span
ports_at errors told = both_ends (ports_interval errors) told

-- a strand's interval from the ends of the runs that passed it on the way down, and of those that passed it on the way up
abbrev pub strand_at : Errors → Span → Span → Span → Span → Span
strand_at errors p q down up =
    meet (both_ends (strand_interval errors p) down) (both_ends (strand_interval errors q) up)

-- the answer from the ends of the three kinds
abbrev pub answer_with : Errors → Option Ends → Option Ends → Option Ends → Result CalibOut CalibFault
answer_with errors None straight swapped = Err (Missing Ref)
answer_with errors (Some reference) None swapped = Err (Missing Straight)
answer_with errors (Some reference) (Some straight) None = Err (Missing Swapped)
answer_with errors (Some reference) (Some straight) (Some swapped) =
    let p = ports_at errors reference.down in
    let q = ports_at errors reference.up in
    judged p q (strand_at errors p q straight.down swapped.up) (strand_at errors p q swapped.down straight.up)

-- the answer from what a calibration keeps
abbrev pub answer_at : CalibAt → Result CalibOut CalibFault
answer_at calib = answer_with calib.errors calib.reference calib.straight calib.swapped
