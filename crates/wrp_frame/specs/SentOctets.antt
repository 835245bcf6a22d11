-- The octets of a message, one field after another (IEEE 1588-2019; the values with which reserved places and
-- controlField are sent are this project's profile).
use Rattle.std.specs.Prelude.{ℕ, ◌+◌, List, [], ◌∷◌, ◌++◌, length, Option, Some, None}
use Rattle.std.specs.Int.{w16, w64, cast_unsigned}
use Rattle.byteorder.specs.Endian.{big_bytes}
use Rattle.wrp_base.specs.declared.time.Ts.{Ts}
use Rattle.wrp_base.specs.declared.message.PortIdentity.{PortIdentity}
use Rattle.wrp_base.specs.declared.message.Head.{Head}
use Rattle.wrp_base.specs.declared.message.Body.{Body}
use Rattle.wrp_base.specs.declared.message.Body.TheVariants.{Sync, DelayReq, FollowUp, DelayResp, Announce, Signal}
use Rattle.wrp_base.specs.declared.message.WrMsg.{WrMsg}
use Rattle.wrp_base.specs.declared.message.PtpMsg.{PtpMsg}
use Rattle.wrp_tlv.specs.TlvList.{TypedValue, tlv_octets, extension}
use Rattle.wrp_tlv.specs.WhiteRabbit.{wr_value, suffix_value}
use Rattle.wrp_frame.specs.declared.message_type.MessageType.{MessageType}
use Rattle.wrp_frame.specs.MessageTypes.{number_of, control_of, kind_of_body, least_length}

-- a Timestamp: 48 bits of seconds and 32 of nanoseconds
abbrev pub timestamp_octets : Ts → List ℕ
timestamp_octets t = big_bytes 6 t.seconds ++ big_bytes 4 t.nanos

-- a PortIdentity: clockIdentity and portNumber
abbrev pub identity_octets : PortIdentity → List ℕ
identity_octets identity = big_bytes 8 identity.clock ++ big_bytes 2 identity.port

-- the header: messageType, versionPTP, messageLength, domainNumber, minorSdoId, flagField,
-- correctionField, messageTypeSpecific, sourcePortIdentity, sequenceId, controlField and
-- logMessageInterval
abbrev pub head_octets : MessageType → ℕ → Head → List ℕ
head_octets kind size head =
    big_bytes 1 (number_of kind)
    ++ big_bytes 1 2
    ++ big_bytes 2 size
    ++ big_bytes 1 head.domain
    ++ big_bytes 1 0
    ++ big_bytes 2 head.flags
    ++ big_bytes 8 (cast_unsigned w64 head.correction)
    ++ big_bytes 4 0
    ++ identity_octets head.source
    ++ big_bytes 2 head.seq
    ++ big_bytes 1 (control_of kind)
    ++ big_bytes 1 head.interval

-- the body; the body of an Announce is originTimestamp, currentUtcOffset, a reserved octet, grandmasterPriority1,
-- grandmasterClockQuality, grandmasterPriority2, grandmasterIdentity, stepsRemoved and timeSource
abbrev pub body_octets : Body → List ℕ
body_octets (Sync origin) = timestamp_octets origin
body_octets (DelayReq origin) = timestamp_octets origin
body_octets (FollowUp precise) = timestamp_octets precise
body_octets (DelayResp receive requesting) = timestamp_octets receive ++ identity_octets requesting
body_octets (Announce origin utc p1 quality p2 gm steps source suffix) =
    timestamp_octets origin
    ++ big_bytes 2 (cast_unsigned w16 utc)
    ++ big_bytes 1 0
    ++ big_bytes 1 p1
    ++ big_bytes 4 quality
    ++ big_bytes 1 p2
    ++ big_bytes 8 gm
    ++ big_bytes 2 steps
    ++ big_bytes 1 source
body_octets (Signal target wr) = identity_octets target

-- the TLV of a suffix, if there is one
abbrev pub suffix_tlvs : Option ℕ → List TypedValue
suffix_tlvs None = []
suffix_tlvs (Some flags) = extension (suffix_value flags) ∷ []

-- the TLV of a White Rabbit message, if there is one
abbrev pub message_tlvs : Option WrMsg → List TypedValue
message_tlvs None = []
message_tlvs (Some message) = extension (wr_value message) ∷ []

-- the TLVs of a body: the TLV of its White Rabbit message or suffix
abbrev pub tlvs_of : Body → List TypedValue
tlvs_of (Sync origin) = []
tlvs_of (DelayReq origin) = []
tlvs_of (FollowUp precise) = []
tlvs_of (DelayResp receive requesting) = []
tlvs_of (Announce origin utc p1 quality p2 gm steps source suffix) = suffix_tlvs suffix
tlvs_of (Signal target wr) = message_tlvs wr

-- the octets of these TLVs, one after another
abbrev pub octets_of_tlvs : List TypedValue → List ℕ
octets_of_tlvs [] = []
octets_of_tlvs (tlv ∷ tlvs) = tlv_octets tlv ++ octets_of_tlvs tlvs

-- messageLength of a body: all of its octets and of its TLVs
abbrev pub size_of : Body → ℕ
size_of body = least_length (kind_of_body body) + length (octets_of_tlvs (tlvs_of body))

-- the octets of a message: its header, its body and its TLVs
abbrev pub octets_of : PtpMsg → List ℕ
octets_of message =
    head_octets (kind_of_body message.body) (size_of message.body) message.head
    ++ body_octets message.body
    ++ octets_of_tlvs (tlvs_of message.body)
