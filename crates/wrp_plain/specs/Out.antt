-- What a plain servo answers to a measurement (this project's profile).
use Rattle.std.specs.Prelude.{ℤ, ◌≡◌, ◌≤◌, ◌^◌, ◌≤ℤ◌, ◌<ℤ◌, unsigned_abs, List, ◌∷◌, Some}
use Rattle.wrp_plain.specs.declared.settings.PlainSet.{PlainSet}
use Rattle.wrp_plain.specs.declared.settings.PlainOut.{PlainOut}
use Rattle.wrp_plain.specs.declared.settings.PlainOut.TheVariants.{Short, Taken}
use Rattle.wrp_plain.specs.Measurement.{round_of, least_round}
use Rattle.wrp_plain.specs.Call.{Call, CallMeasured, CallCommand}
use Rattle.wrp_plain.specs.Report.{report_of, command_of}

-- the answer to a measurement after these calls: Short if and only if the round trip is below the least; else the
-- report with this measurement, and its command
abbrev pub IsOut : PlainSet → List Call → ℤ → ℤ → ℤ → ℤ → PlainOut → Type 0
IsOut set calls t1 t2 t3 t4 (Short round least) =
    (round ≡ round_of t1 t2 t3 t4) × (least ≡ least_round set) × (round <ℤ least)
IsOut set calls t1 t2 t3 t4 (Taken report command) =
    (least_round set ≤ℤ round_of t1 t2 t3 t4) ×
    (report_of set (CallMeasured t1 t2 t3 t4 ∷ calls) ≡ Some report) × (command ≡ command_of set report)

-- a measurement is taken
abbrev pub IsTaken : PlainOut → Type 0
IsTaken (Short round least) = ⊥
IsTaken (Taken report command) = Unit {0}

-- the command that it gives, if any, is at most 2^60, either way
abbrev pub HasSmallCommand : PlainOut → Type 0
HasSmallCommand (Short round least) = Unit {0}
HasSmallCommand (Taken report command) = unsigned_abs command ≤ 2 ^ 60

-- the calls after it: a measurement that is too short leaves none; any other comes before its command
abbrev pub calls_after : List Call → ℤ → ℤ → ℤ → ℤ → PlainOut → List Call
calls_after calls t1 t2 t3 t4 (Short round least) = calls
calls_after calls t1 t2 t3 t4 (Taken report command) = CallCommand command ∷ CallMeasured t1 t2 t3 t4 ∷ calls
