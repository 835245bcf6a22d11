-- The body of each kind at its fixed places (IEEE 1588-2019), with the White Rabbit message or suffix of the list of
-- TLVs after it. Reserved octets are free.
use Rattle.std.specs.Prelude.{ℕ, List, Option, slice_index}
use Rattle.wrp_base.specs.declared.message.Body.{Body}
use Rattle.wrp_base.specs.declared.message.Body.TheVariants as bodies
use Rattle.wrp_base.specs.declared.message.PtpMsg.{PtpMsg}
use Rattle.wrp_frame.specs.declared.message_type.MessageType.{MessageType}
use Rattle.wrp_frame.specs.declared.message_type.MessageType.TheVariants.{Sync, DelayReq, FollowUp, DelayResp, Announce, Signaling}
use Rattle.wrp_tlv.specs.Octets.{number_at, signed_16_at}
use Rattle.wrp_frame.specs.Fields.{timestamp_at, identity_at}
use Rattle.wrp_frame.specs.Header.{head_at}
use Rattle.wrp_tlv.specs.TlvList.{TypedValue}
use Rattle.wrp_tlv.specs.WhiteRabbitList.{first_message, first_suffix}

-- the body of an Announce: originTimestamp, currentUtcOffset, grandmasterPriority1,
-- grandmasterClockQuality, grandmasterPriority2, grandmasterIdentity, stepsRemoved, timeSource, and
-- the wrFlags of its suffix
abbrev pub announce_at : Option ℕ → List ℕ → Body
announce_at suffix octets =
    bodies.Announce
    (timestamp_at 34 octets)
    (signed_16_at 44 octets)
    (slice_index octets 47)
    (number_at 48 4 octets)
    (slice_index octets 52)
    (number_at 53 8 octets)
    (number_at 61 2 octets)
    (slice_index octets 63)
    suffix

-- the body of the kind: its Timestamp first; requestingPortIdentity of a Delay_Resp,
-- targetPortIdentity of a Signaling
abbrev pub body_at : MessageType → List TypedValue → List ℕ → Body
body_at Sync tlvs octets = bodies.Sync (timestamp_at 34 octets)
body_at DelayReq tlvs octets = bodies.DelayReq (timestamp_at 34 octets)
body_at FollowUp tlvs octets = bodies.FollowUp (timestamp_at 34 octets)
body_at DelayResp tlvs octets = bodies.DelayResp (timestamp_at 34 octets) (identity_at 44 octets)
body_at Announce tlvs octets = announce_at (first_suffix tlvs) octets
body_at Signaling tlvs octets = bodies.Signal (identity_at 34 octets) (first_message tlvs)

-- the message of the kind: the header's fields and the body's
abbrev pub message_at : MessageType → List TypedValue → List ℕ → PtpMsg
message_at kind tlvs octets = record { head = head_at octets; body = body_at kind tlvs octets }
