-- Each number of a message fits the octets that it is sent in, and its White Rabbit part is read as
-- it was sent.
use Rattle.std.specs.Prelude.{ℕ, ℤ, ◌≡◌, ◌<◌, ◌^◌, Option, Some, None}
use Rattle.std.specs.Int.{w16, w64, cast_signed, cast_unsigned}
use Rattle.wrp_base.specs.declared.time.Ts.{Ts}
use Rattle.wrp_base.specs.declared.message.PortIdentity.{PortIdentity}
use Rattle.wrp_base.specs.declared.message.Head.{Head}
use Rattle.wrp_base.specs.declared.message.Body.{Body}
use Rattle.wrp_base.specs.declared.message.Body.TheVariants.{Sync, DelayReq, FollowUp, DelayResp, Announce, Signal}
use Rattle.wrp_base.specs.declared.message.WrMsg.{WrMsg}
use Rattle.wrp_tlv.specs.declared.white_rabbit.WrRead.TheVariants.{Wr, Suffix}
use Rattle.wrp_tlv.specs.WhiteRabbit.{wr_read, wr_value, suffix_value}

-- a PortIdentity: 8 octets and 2
pub record FitsIdentity (i : PortIdentity) : Type 0 where
  pub clock : i.clock < 256 ^ 8
  pub port : i.port < 256 ^ 2

-- the kept fields of the header; correctionField is sent as the 64 bits of its two's complement
pub record FitsHead (head : Head) : Type 0 where
  pub domain : head.domain < 256 ^ 1
  pub flags : head.flags < 256 ^ 2
  pub correction : cast_unsigned w64 head.correction < 256 ^ 8
  pub signed : cast_signed w64 (cast_unsigned w64 head.correction) ≡ head.correction
  pub source : FitsIdentity head.source
  pub seq : head.seq < 256 ^ 2
  pub interval : head.interval < 256 ^ 1

-- a Timestamp: 6 octets and 4
pub record FitsTime (t : Ts) : Type 0 where
  pub seconds : t.seconds < 256 ^ 6
  pub nanos : t.nanos < 256 ^ 4

-- the fields of an Announce
pub record FitsAnnounce
    (time : Ts) (offset : ℤ) (first class second grandmaster hops clock : ℕ) : Type 0 where
  pub origin : FitsTime time
  pub utc : cast_unsigned w16 offset < 256 ^ 2
  pub signed : cast_signed w16 (cast_unsigned w16 offset) ≡ offset
  pub p1 : first < 256 ^ 1
  pub quality : class < 256 ^ 4
  pub p2 : second < 256 ^ 1
  pub gm : grandmaster < 256 ^ 8
  pub steps : hops < 256 ^ 2
  pub source : clock < 256 ^ 1

-- the fields of a body
abbrev pub FitsBody : Body → Type 0
FitsBody (Sync origin) = FitsTime origin
FitsBody (DelayReq origin) = FitsTime origin
FitsBody (FollowUp precise) = FitsTime precise
FitsBody (DelayResp receive requesting) = FitsTime receive × FitsIdentity requesting
FitsBody (Announce origin utc p1 quality p2 gm steps source suffix) =
    FitsAnnounce origin utc p1 quality p2 gm steps source
FitsBody (Signal target wr) = FitsIdentity target

-- the value as which a suffix is sent is read as that suffix
abbrev pub IsSuffixReadBack : Option ℕ → Type 0
IsSuffixReadBack None = Unit {0}
IsSuffixReadBack (Some flags) = wr_read (suffix_value flags) ≡ Suffix flags

-- the value as which a White Rabbit message is sent is read as that message
abbrev pub IsMessageReadBack : Option WrMsg → Type 0
IsMessageReadBack None = Unit {0}
IsMessageReadBack (Some message) = wr_read (wr_value message) ≡ Wr message

-- the White Rabbit part of a body is read as it was sent
abbrev pub IsReadBack : Body → Type 0
IsReadBack (Sync origin) = Unit {0}
IsReadBack (DelayReq origin) = Unit {0}
IsReadBack (FollowUp precise) = Unit {0}
IsReadBack (DelayResp receive requesting) = Unit {0}
IsReadBack (Announce origin utc p1 quality p2 gm steps source suffix) = IsSuffixReadBack suffix
IsReadBack (Signal target wr) = IsMessageReadBack wr
