-- An answer that is the reading is one that the reading allows.
use Rattle.std.proofs.Common.{◌≡◌, Result, Ok, Err}
use Rattle.wrp_base.specs.declared.fault.TraceFault.{TraceFault}
use Rattle.wrp_base.specs.declared.fault.TraceFault.TheVariants.{Fields, Kind, Number, Name, Memory}
use Rattle.wrp_fields.specs.Reading.{IsReading}

pub is_reading : {A : Type 0} (read answer : Result A TraceFault) → answer ≡ read → IsReading read answer
is_reading read (Ok value) e = e
is_reading read (Err Fields) e = e
is_reading read (Err Kind) e = e
is_reading read (Err (Number field)) e = e
is_reading read (Err (Name field)) e = e
is_reading read (Err (Memory cause)) e = tt
