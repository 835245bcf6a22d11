-- Announces whose sender is certain of its time (IEEE 1588-2019; the meaning of the flag is this project's profile).
use Rattle.std.specs.Prelude.{◌≡◌, bit_and}
use Rattle.wrp_base.specs.declared.message.Body.{Body}
use Rattle.wrp_base.specs.declared.message.Body.TheVariants.{Announce}
use Rattle.wrp_base.specs.declared.message.PtpMsg.{PtpMsg}

abbrev pub IsAnnounce : Body → Type 0
IsAnnounce (Announce origin utc p1 quality p2 gm steps source suffix) = Unit {0}
IsAnnounce _ = ⊥

-- an Announce whose sender is certain of its time: synchronizationUncertain is not set
pub record IsCertainAnnounce (message : PtpMsg) : Type 0 where
  pub announce : IsAnnounce message.body
  pub certain : bit_and message.head.flags 0x0040 ≡ 0
