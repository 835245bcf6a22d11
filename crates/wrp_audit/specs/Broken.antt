-- The line of an event that breaks a premise (this project's profile).
use Rattle.std.specs.Prelude.{ℕ, ◌==◌, if◌then◌else◌, List, [], codes}
use Rattle.wrp_course.specs.declared.breach.Breach.{Breach}
use Rattle.wrp_records.specs.Refusals.{broken_words}

-- the name of a premise, by its number
unfoldable pub premise_name : ℕ → List ℕ
premise_name premise =
    if premise == 1 then codes "TickEarly"
    else if premise == 2 then codes "TickLate"
    else if premise == 3 then codes "Rate"
    else if premise == 4 then codes "FibreRate"
    else if premise == 5 then codes "Fibre"
    else if premise == 6 then codes "Module"
    else if premise == 7 then codes "TxStamp"
    else if premise == 8 then codes "RxRaw"
    else if premise == 9 then codes "Beat"
    else if premise == 10 then codes "TooOld"
    else if premise == 11 then codes "NotSent"
    else if premise == 12 then codes "Forged"
    else if premise == 13 then codes "NotUp"
    else []

-- the last line of output if an event, counted from 1, breaks a premise
abbrev pub broken_line : ℕ → Breach → List ℕ
broken_line number breach =
    broken_words number breach.premise (premise_name breach.premise) breach.shown breach.bound
