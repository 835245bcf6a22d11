-- The kinds of message: their messageType, their least length, and which have a Timestamp and which
-- White Rabbit TLVs (IEEE 1588-2019; that only Announce and Signaling have such TLVs is this
-- project's profile).
use Rattle.std.specs.Prelude.{ℕ, Bool, true, false, Option, Some, None, ◌==◌, if◌then◌else◌}
use Rattle.wrp_base.specs.declared.message.Body.{Body}
use Rattle.wrp_base.specs.declared.message.Body.TheVariants as bodies
use Rattle.wrp_frame.specs.declared.message_type.MessageType.{MessageType}
use Rattle.wrp_frame.specs.declared.message_type.MessageType.TheVariants.{Sync, DelayReq, FollowUp, DelayResp, Announce, Signaling}

-- the messageType of a kind
abbrev pub number_of : MessageType → ℕ
number_of Sync = 0x0
number_of DelayReq = 0x1
number_of FollowUp = 0x8
number_of DelayResp = 0x9
number_of Announce = 0xB
number_of Signaling = 0xC

-- the kind that a messageType means, of the six that are read
abbrev pub kind_numbered : ℕ → Option MessageType
kind_numbered n =
    if n == 0x0 then Some Sync
    else if n == 0x1 then Some DelayReq
    else if n == 0x8 then Some FollowUp
    else if n == 0x9 then Some DelayResp
    else if n == 0xB then Some Announce
    else if n == 0xC then Some Signaling
    else None

-- the controlField that a kind is sent with
abbrev pub control_of : MessageType → ℕ
control_of Sync = 0
control_of DelayReq = 1
control_of FollowUp = 2
control_of DelayResp = 3
control_of Announce = 5
control_of Signaling = 5

-- the kind whose body it is
abbrev pub kind_of_body : Body → MessageType
kind_of_body (bodies.Sync origin) = Sync
kind_of_body (bodies.DelayReq origin) = DelayReq
kind_of_body (bodies.FollowUp precise) = FollowUp
kind_of_body (bodies.DelayResp receive requesting) = DelayResp
kind_of_body (bodies.Announce origin utc p1 quality p2 gm steps source suffix) = Announce
kind_of_body (bodies.Signal target wr) = Signaling

-- the octets of the header and the body, which each message of the kind has at least
abbrev pub least_length : MessageType → ℕ
least_length Sync = 44
least_length DelayReq = 44
least_length FollowUp = 44
least_length DelayResp = 54
least_length Announce = 64
least_length Signaling = 44

-- each kind but Signaling begins its body with a Timestamp
abbrev pub has_timestamp : MessageType → Bool
has_timestamp Sync = true
has_timestamp DelayReq = true
has_timestamp FollowUp = true
has_timestamp DelayResp = true
has_timestamp Announce = true
has_timestamp Signaling = false

-- the kinds whose White Rabbit TLVs are read
abbrev pub reads_white_rabbit : MessageType → Bool
reads_white_rabbit Sync = false
reads_white_rabbit DelayReq = false
reads_white_rabbit FollowUp = false
reads_white_rabbit DelayResp = false
reads_white_rabbit Announce = true
reads_white_rabbit Signaling = true
