-- Statuses: their numbers, and which of them are answers to words and input (this project's
-- profile).
use Rattle.std.specs.Prelude.{ℕ, Bool, true, false}
use Rattle.wrp_records.specs.declared.status.Status.{Status}
use Rattle.wrp_records.specs.declared.status.Status.TheVariants.{Done, Usage, BadNetwork, BadTrace, Broken, ReadFault, WriteFault, LinkFault, TooLarge, OutOfMemory, BadCapture, BadCalib}

-- the number that the program ends with
abbrev pub number_of : Status → ℕ
number_of Done = 0
number_of Usage = 1
number_of BadNetwork = 2
number_of BadTrace = 3
number_of Broken = 4
number_of ReadFault = 5
number_of WriteFault = 6
number_of LinkFault = 7
number_of TooLarge = 8
number_of OutOfMemory = 9
number_of BadCapture = 10
number_of BadCalib = 11

-- whether a status answers words and input; the others report an outside fault or that memory ran
-- out
abbrev pub is_answer : Status → Bool
is_answer ReadFault = false
is_answer WriteFault = false
is_answer LinkFault = false
is_answer OutOfMemory = false
is_answer _ = true
