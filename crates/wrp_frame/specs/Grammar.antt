-- The grammar of frames: which octets spell which message (IEEE 1588-2019, White Rabbit
-- Specification 2.0). What follows messageLength is padding, and free.
use Rattle.std.specs.Prelude.{◌≡◌, ◌≢◌, ◌<◌, ◌≤◌, ℕ, true, false, List, length, slice_range, bit_and}
use Rattle.std.specs.List.{list_any}
use Rattle.wrp_base.specs.declared.message.PtpMsg.{PtpMsg}
use Rattle.wrp_frame.specs.declared.message_type.MessageType.{MessageType}
use Rattle.wrp_frame.specs.declared.message_type.MessageType.TheVariants.{Sync}
use Rattle.wrp_tlv.specs.Octets.{number_at}
use Rattle.wrp_frame.specs.Fields.{timestamp_at}
use Rattle.wrp_frame.specs.MessageTypes.{least_length, has_timestamp, reads_white_rabbit}
use Rattle.wrp_frame.specs.Header.{HasHeader, message_length}
use Rattle.wrp_tlv.specs.TlvList.{TypedValue, Fills}
use Rattle.wrp_tlv.specs.WhiteRabbitList.{read_of, is_bad}
use Rattle.wrp_frame.specs.Body.{message_at}

-- messageLength is at least the kind's, and no more than there are octets
pub record HasLength (kind : MessageType) (octets : List ℕ) : Type 0 where
  pub least : least_length kind ≤ message_length octets
  pub most : message_length octets ≤ length octets

-- the nanosecondsField of a kind that has one is below a second
abbrev pub HasTime : MessageType → List ℕ → Type 0
HasTime kind octets = has_timestamp kind ≡ true → (timestamp_at 34 octets).nanos < 1_000_000_000

-- the octets between the body and messageLength
abbrev pub tlv_part : MessageType → List ℕ → List ℕ
tlv_part kind octets = slice_range octets (least_length kind) (message_length octets)

-- the list fills the part after the body, and if the kind reads White Rabbit TLVs, none of them is a bad one
pub record HasTlvs (kind : MessageType) (tlvs : List TypedValue) (octets : List ℕ) : Type 0 where
  pub filled : Fills tlvs (tlv_part kind octets)
  pub sound : reads_white_rabbit kind ≡ true → list_any (λ tlv. is_bad (read_of tlv)) tlvs ≡ false

-- twoStepFlag is set in flagField
abbrev pub IsTwoStep : List ℕ → Type 0
IsTwoStep octets = bit_and (number_at 6 2 octets) 0x0200 ≢ 0

-- the octets spell the message: a header and a body of its kind, a list of whole TLVs up to
-- messageLength, then any padding
pub record Spells (octets : List ℕ) (message : PtpMsg) : Type 0 where
  pub kind : MessageType
  pub header : HasHeader kind octets
  pub sized : HasLength kind octets
  pub time : HasTime kind octets
  pub tlvs : List TypedValue
  pub listed : HasTlvs kind tlvs octets
  pub two_step : kind ≡ Sync → IsTwoStep octets
  pub is : message ≡ message_at kind tlvs octets

-- no octets spell two messages
abbrev pub SpellOneMessage : Type 0
SpellOneMessage =
    (octets : List ℕ) (one other : PtpMsg) → Spells octets one → Spells octets other → one ≡ other
