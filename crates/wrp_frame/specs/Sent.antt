-- What a frame that is sent has in the places that a reader leaves free (this project's profile), and that it contains
-- nothing but its message.
use Rattle.std.specs.Prelude.{◌≡◌, ℕ, List, length, slice_index}
use Rattle.wrp_base.specs.declared.message.PtpMsg.{PtpMsg}
use Rattle.wrp_tlv.specs.Octets.{number_at}
use Rattle.wrp_tlv.specs.TlvList.{Fills}
use Rattle.wrp_frame.specs.declared.message_type.MessageType.{MessageType}
use Rattle.wrp_frame.specs.declared.message_type.MessageType.TheVariants.{Announce}
use Rattle.wrp_frame.specs.Grammar.{tlv_part}
use Rattle.wrp_frame.specs.Header.{message_length}
use Rattle.wrp_frame.specs.MessageTypes.{number_of, control_of, kind_of_body}
use Rattle.wrp_frame.specs.SentOctets.{tlvs_of}

-- the octets are those of a message of this kind as it is sent
pub record IsSent (kind : MessageType) (octets : List ℕ) : Type 0 where
  -- the high nibbles are 0
  pub number : slice_index octets 0 ≡ number_of kind
  pub version : slice_index octets 1 ≡ 2
  -- minorSdoId, messageTypeSpecific and the reserved octet of an Announce are 0
  pub sdo_id : slice_index octets 5 ≡ 0
  pub specific : number_at 16 4 octets ≡ 0
  pub reserved : kind ≡ Announce → slice_index octets 46 ≡ 0
  pub control : slice_index octets 32 ≡ control_of kind
  -- messageLength is the number of octets: there is no padding
  pub whole : message_length octets ≡ length octets

-- the frame of a message: as it is sent, and with no other TLV than the message's own
pub record IsFrameOf (message : PtpMsg) (octets : List ℕ) : Type 0 where
  pub sent : IsSent (kind_of_body message.body) octets
  pub tlvs : Fills (tlvs_of message.body) (tlv_part (kind_of_body message.body) octets)
