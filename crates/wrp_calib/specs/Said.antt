-- What the reading of a line gives, as the record that the line says (this project's profile).
use Rattle.std.specs.Prelude.{ℕ, Result, Ok, Err}
use Rattle.wrp_base.specs.declared.fault.TraceFault.{TraceFault}
use Rattle.wrp_calib.specs.declared.lines.fields.Cord.{Cord}
use Rattle.wrp_calib.specs.declared.lines.fields.RunLine.{RunLine}
use Rattle.wrp_calib.specs.Run.{run_of}
use Rattle.wrp_calib.specs.Lines.{CalibRecord, SaysError, SaysCord, SaysRun}

-- the record of an error
abbrev pub says_error : Result ℕ TraceFault → Result CalibRecord TraceFault
says_error (Ok e) = Ok (SaysError e)
says_error (Err fault) = Err fault

-- the record of a patch cord
abbrev pub says_cord : Result Cord TraceFault → Result CalibRecord TraceFault
says_cord (Ok cord) = Ok (SaysCord cord.d cord.ep)
says_cord (Err fault) = Err fault

-- the record of a run
abbrev pub says_run : Result RunLine TraceFault → Result CalibRecord TraceFault
says_run (Ok run) = Ok (SaysRun (run_of run.kind run.times))
says_run (Err fault) = Err fault
