-- What octets say: a message, or the first fault of IEEE 1588-2019's frames and of White Rabbit's TLVs that they have
use Rattle.std.specs.Prelude.{ℕ, List, Result, Ok, Err}
use Rattle.wrp_base.specs.declared.message.PtpMsg.{PtpMsg}
use Rattle.wrp_frame.specs.declared.fault.FrameFault.{FrameFault}
use Rattle.wrp_frame.specs.Faults.{IsFirstFault}
use Rattle.wrp_frame.specs.Grammar.{Spells}

-- the octets say a message, or have this first fault
abbrev pub Says : List ℕ → Result PtpMsg FrameFault → Type 0
Says octets (Ok message) = Spells octets message
Says octets (Err fault) = IsFirstFault fault octets
